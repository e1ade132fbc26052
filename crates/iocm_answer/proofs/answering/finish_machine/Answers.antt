-- What comes of a machine comes of the deck of which it was opened.
use Rattle.std.proofs.Common.{◌≡◌, List, ℕ, inl, inr, map, subst, sym}
use Rattle.iocm_console.specs.Opening.{opened_deck}
use Rattle.iocm_answer.specs.Answer.{printed}
use Rattle.iocm_answer.specs.Manner.{in_form}
use Rattle.iocm_answer.specs.Commands.{IsMeant, first_text, later_texts}
use Rattle.iocm_answer.specs.Commands.Run.{IsOfMachine, ShowsOne}
use Rattle.iocm_answer.proofs.Told.{run_due}
use Rattle.iocm_answer.proofs.answering.finish_machine.Goals as goal

pub returns-in-Run-clause-text : goal.returns-in-Run-clause-text
returns-in-Run-clause-text g c input deck opens =
    let m = in_form c.args.form input in
    let others : List (List ℕ) = map (λ v. v.items) c.args.others.now in
    let config = c.args.plant.state.config in
    let shown = printed m c.run.result in
    subst (λ k. ShowsOne m c.run.result (IsMeant m k deck others)) (sym c.in-Run.is) (elim (c.run.ensures m) [
      | inl is ↦ inl (run_due m (opened_deck deck) c.args.plant.state (later_texts others) (first_text others) shown opens
          (subst (λ script. IsOfMachine m config (later_texts others) script shown) c.first_text-in-Run.ensures
          (subst (λ changes. IsOfMachine m config changes c.first_text-in-Run.result.now shown) c.later_texts.ensures is)))
      | inr memory ↦ inr memory
    ])
