-- A redo is the journal's.
use Rattle.std.proofs.Common.{refl}
use Rattle.iocm_history.specs.Entry as history
use Rattle.iocm_types.specs.declared.answer.Answer.TheVariants as answers
use Rattle.iocm_types.specs.declared.refused.At.TheVariants.{Nothing}
use Rattle.iocm_types.specs.declared.rule.Rule.TheVariants.{O1}
use Rattle.iocm_model.specs.Change.Refusal.{refusal_at}
use Rattle.iocm_core.proofs.Kept.{none_if, staged_if, refuses, together, journal_answered}
use Rattle.iocm_core.proofs.Rightness.{redo_o1}
use Rattle.iocm_core.proofs.installation.Installation.redo.Goals as goal

pub returns-then-is_some-clause-answers : goal.returns-then-is_some-clause-answers
returns-then-is_some-clause-answers c = λ opening h it.
    let m = c.args.self.now in let n = c.args.number in
    let g = staged_if opening h m it c.if-is_some.ensures in
    refuses c.journals_keep_to_histories.ensures.others opening h m (history.redo n) (refusal_at O1 Nothing) it
    (redo_o1 opening h g.0 n g.1)

pub redo-requires : goal.redo-requires
redo-requires c =
    let m = c.args.self.now in
    together m c.requires (none_if m.stage c.if-is_some.ensures)

pub returns-in-Ok-clause-answers : goal.returns-in-Ok-clause-answers
returns-in-Ok-clause-answers c = λ opening h it.
    let n = c.args.number in
    journal_answered it (none_if c.args.self.now.stage c.if-is_some.ensures) (history.redo n) (answers.Redone n)
    c.redo.new.self c.redo.new.plant c.in-Ok.ensures.next refl

pub returns-in-Err-clause-answers : goal.returns-in-Err-clause-answers
returns-in-Err-clause-answers c = λ opening h it.
    journal_answered it (none_if c.args.self.now.stage c.if-is_some.ensures) (history.redo c.args.number)
    (answers.Refused c.in-Err.why) c.redo.new.self c.redo.new.plant c.in-Err.ensures.next refl
