-- An Advance does the next edit.
use Rattle.std.proofs.Common.{Some, refl}
use Rattle.iocm_history.specs.Entry as history
use Rattle.iocm_types.specs.declared.refused.At.TheVariants.{Nothing}
use Rattle.iocm_model.specs.Change.Refusal.{refusal_at}
use Rattle.iocm_types.specs.declared.rule.Rule.TheVariants.{O2}
use Rattle.iocm_core.proofs.Changes.{advance_answered}
use Rattle.iocm_core.proofs.Kept.{is_staged, idle, refuses}
use Rattle.iocm_core.proofs.Rightness.{advance_o2}
use Rattle.iocm_core.proofs.installation.Installation.advance.Goals as goal

pub advance-requires : goal.advance-requires
advance-requires c = is_staged c.args.self.now c.in-Some.staged c.requires c.in-Some.is

pub returns-in-Some-clause-answers : goal.returns-in-Some-clause-answers
returns-in-Some-clause-answers c = λ opening h it.
    let m = c.args.self.now in
    let laws = c.journals_keep_to_histories.ensures in
    advance_answered laws.others opening h m (record m { plant = c.advance.new.plant; stage = Some c.advance.new.self })
    c.in-Some.staged c.advance.new.self c.advance.result it c.in-Some.is c.advance.ensures.stage c.advance.ensures.left
    refl refl refl

pub returns-in-None-clause-answers : goal.returns-in-None-clause-answers
returns-in-None-clause-answers c = λ opening h it.
    let m = c.args.self.now in
    let laws = c.journals_keep_to_histories.ensures in
    refuses laws.others opening h m history.advance (refusal_at O2 Nothing) it
    (advance_o2 opening h (idle opening h m it c.in-None.is).none)
