-- The refusal of a change that is due.
use Rattle.std.proofs.Common.{◌≡◌, ◌⊎◌, ℕ, List, Ok, Err, inl, inr, sym, ap}
use Rattle.iocm_types.specs.declared.refused.Refused.{Refused}
use Rattle.iocm_model.specs.Change.Meaning.{Outcome, Performed}
use Rattle.iocm_plant.specs.Refusing.{IsDue}
use Rattle.iocm_activate.specs.Done.{refusal_in}
use Rattle.iocm_console.specs.Refusal.{no_memory, of_change}
use Rattle.iocm_answer.specs.declared.manner.Manner.{Manner}
use Rattle.iocm_answer.specs.Manner.{refused}
use Rattle.iocm_answer.specs.Commands.Apply.{told_or_refused}

-- the refusal of a change that is due, or lack of memory
pub due_told : (m : Manner) (tell : Performed → List ℕ) (o : Outcome) (why : Refused) → IsDue (refusal_in o) why
    → (refused m (of_change why) ≡ told_or_refused m tell o) ⊎ (of_change why ≡ no_memory)
due_told m tell o why (inr none) = inr (ap of_change none)
due_told m tell (Ok r) why (inl due) = cc
due_told m tell (Err e) why (inl due) =
    let same : e ≡ why = cc in inl (ap (λ w. refused m (of_change w)) (sym same))
