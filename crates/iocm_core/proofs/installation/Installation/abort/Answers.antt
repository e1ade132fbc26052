-- An Abort takes back what was advanced.
use Rattle.std.proofs.Common.{refl, sym}
use Rattle.iocm_history.specs.Entry as history
use Rattle.iocm_types.specs.declared.refused.At.TheVariants.{Nothing}
use Rattle.iocm_model.specs.Change.Refusal.{refusal_at}
use Rattle.iocm_types.specs.declared.rule.Rule.TheVariants.{O2}
use Rattle.iocm_core.proofs.Changes.{abort_answered}
use Rattle.iocm_core.proofs.Kept.{is_staged, idle, refuses_taken}
use Rattle.iocm_core.proofs.Rightness.{abort_o2}
use Rattle.iocm_core.proofs.installation.Installation.abort.Goals as goal

pub abort-requires : goal.abort-requires
abort-requires c = is_staged c.args.self.now c.in-Some.staged c.requires (sym c.in-Some.ensures.value)

pub returns-in-Some-clause-answers : goal.returns-in-Some-clause-answers
returns-in-Some-clause-answers c = λ opening h it.
    let m = c.args.self.now in
    let laws = c.journals_keep_to_histories.ensures in
    abort_answered laws.others opening h m (record m { plant = c.abort.new.plant; stage = c.take.new.self })
    c.in-Some.staged it (sym c.in-Some.ensures.value) c.abort.ensures.state c.in-Some.ensures.after refl refl

pub returns-in-None-clause-answers : goal.returns-in-None-clause-answers
returns-in-None-clause-answers c = λ opening h it.
    let m = c.args.self.now in
    let laws = c.journals_keep_to_histories.ensures in
    let none = sym c.in-None.ensures.value in
    refuses_taken laws.others opening h m (record m { stage = c.take.new.self }) history.abort (refusal_at O2 Nothing)
    it none refl refl c.in-None.ensures.after refl
    (abort_o2 opening h (idle opening h m it none).none)
