-- A Commit accepts what was staged.
use Rattle.std.proofs.Common.{refl, sym, ap, ◌∙◌}
use Rattle.iocm_history.specs.Entry as history
use Rattle.iocm_types.specs.declared.refused.At.TheVariants.{Nothing}
use Rattle.iocm_model.specs.Change.Refusal.{refusal_at}
use Rattle.iocm_types.specs.declared.rule.Rule.TheVariants.{O2}
use Rattle.iocm_plant.specs.Operating.{Operating}
use Rattle.iocm_core.proofs.Changes.{commit_answered}
use Rattle.iocm_core.proofs.Kept.{is_staged, idle, refuses_taken}
use Rattle.iocm_core.proofs.Rightness.{commit_o2}
use Rattle.iocm_core.proofs.installation.Installation.commit.Goals as goal

pub commit-done-requires : goal.commit-done-requires
commit-done-requires c = is_staged c.args.self.now c.in-Some.staged c.requires (sym c.in-Some.ensures.value)

pub returns-in-Some-clause-answers : goal.returns-in-Some-clause-answers
returns-in-Some-clause-answers c = λ opening h it.
    let a = c.accept.ensures in
    commit_answered opening h c.args.self.now c.accept.new.self c.in-Some.staged c.commit-done.result c.accept.result
    it (sym c.in-Some.ensures.value)
    (λ t s is. ap (λ (p : Operating). p.state) a.plant ∙ c.commit-done.ensures.state t s is)
    c.commit-done.ensures.tells (record { changes = a.accepted.changes; journal = a.accepted.journal }) a.number
    (a.stage ∙ c.in-Some.ensures.after)

pub returns-in-None-clause-answers : goal.returns-in-None-clause-answers
returns-in-None-clause-answers c = λ opening h it.
    let m = c.args.self.now in
    let laws = c.journals_keep_to_histories.ensures in
    let none = sym c.in-None.ensures.value in
    refuses_taken laws.others opening h m (record m { stage = c.take.new.self }) history.commit
    (refusal_at O2 Nothing) it none refl refl c.in-None.ensures.after refl
    (commit_o2 opening h (idle opening h m it none).none)
