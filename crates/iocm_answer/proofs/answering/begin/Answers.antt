-- The deck of a machine is refused.
use Rattle.std.proofs.Common.{◌≡◌, ◌⊎◌, ℕ, List, false, inl, inr, sym, ap, subst}
use Rattle.iocm_console.specs.Refusal.{no_memory}
use Rattle.iocm_console.specs.Opening.{opened_deck}
use Rattle.iocm_answer.specs.declared.manner.Manner.{Manner}
use Rattle.iocm_answer.specs.Manner.{refused, shown_or_refused}
use Rattle.iocm_answer.specs.Commands.{IsMeant, first_text, later_texts}
use Rattle.iocm_answer.specs.Commands.Apply.{tried}
use Rattle.iocm_answer.specs.Commands.Plan.{asked_of, change_tried}
use Rattle.iocm_answer.proofs.Told.{handed, unopened_due}
use Rattle.iocm_answer.proofs.answering.begin.Goals as goal

pub returns-in_err-open_machine-in-Apply-clause-refusal : goal.returns-in_err-open_machine-in-Apply-clause-refusal
returns-in_err-open_machine-in-Apply-clause-refusal c =
    let deck = c.args.deck.now in
    let why = c.in_err-open_machine-in-Apply.field-0.0 in
    let due = c.in_err-open_machine-in-Apply.ensures.state in
    handed c.from_residual.result why (λ w. (w ≡ no_memory)
    ⊎ ((m : Manner) (others : List (List ℕ)) → IsMeant m c.args.command.now deck others (refused m w))) (elim due [
      | inl memory ↦ inl memory
      | inr is ↦ inr (λ (m : Manner) (others : List (List ℕ)). elim c.in-Apply.is [
        | inl a ↦ subst (λ k. IsMeant m k deck others (refused m why)) (sym a.5)
            (sym (ap (shown_or_refused m
            (λ s. tried m (record { report = a.3; wanted = a.4 }) s (first_text others))) is))
        | inr (inl p) ↦ subst (λ k. IsMeant m k deck others (refused m why)) (sym p.5)
            (sym (ap (shown_or_refused m (λ s. change_tried m (asked_of p.3 p.4 false) s (first_text others))) is))
        | inr (inr r) ↦ subst (λ k. IsMeant m k deck others (refused m why)) (sym r.4)
            (unopened_due m (opened_deck deck) (later_texts others) (first_text others) why is)
      ])
    ]) c.from_residual.ensures
