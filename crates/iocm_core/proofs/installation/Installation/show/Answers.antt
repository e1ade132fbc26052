-- What is shown is counted.
use Rattle.std.proofs.Common.{ap, ◌∙◌}
use Rattle.std.specs.FinMap.{len}
use Rattle.iocm_history.specs.Entry as history
use Rattle.iocm_types.specs.declared.answer.Counts.{Counts}
use Rattle.iocm_types.specs.declared.refused.At.TheVariants.{Nothing}
use Rattle.iocm_model.specs.Change.Refusal.{refusal_at}
use Rattle.iocm_types.specs.declared.rule.Rule.TheVariants.{O1}
use Rattle.iocm_core.proofs.Kept.{none_if, staged_if, refuses, shown_answered}
use Rattle.iocm_core.proofs.Rightness.{show_o1}
use Rattle.iocm_core.proofs.installation.Installation.show.Goals as goal

pub returns-then-is_some-clause-answers : goal.returns-then-is_some-clause-answers
returns-then-is_some-clause-answers c = λ opening h it.
    let m = c.args.self.now in
    let laws = c.journals_keep_to_histories.ensures in
    let g = staged_if opening h m it c.if-is_some.ensures in
    refuses laws.others opening h m history.show (refusal_at O1 Nothing) it (show_o1 opening h g.0 g.1)

pub returns-clause-answers : goal.returns-clause-answers
returns-clause-answers c = λ opening h it.
    let m = c.args.self.now in
    let laws = c.journals_keep_to_histories.ensures in
    let counts : Counts = record {
      records = c.len.result;
      subchannels = c.subchannels.result;
      standing = c.standing.result;
      undone = c.undone_count.result;
    } in
    shown_answered laws.others opening h m counts it (none_if m.stage c.if-is_some.ensures)
    (c.len.ensures ∙ ap len c.config.ensures) c.subchannels.ensures c.standing.ensures.number c.undone_count.ensures
