-- The edit of a leaf: what performing it answers.
use Rattle.std.proofs.Common.{◌≡◌, ℕ, [], ◌∷◌, Some, None, sym, ap, ◌∙◌}
use Rattle.std.specs.Prelude.{Ok, Err, Result}
use Rattle.std.specs.Result.{OnErr}
use Rattle.iocm_types.specs.declared.refused.Refused.{Refused}
use Rattle.iocm_model.specs.Operation.State.{State}
use Rattle.iocm_model.specs.Change.Edit.{Edit, state_after}
use Rattle.iocm_model.specs.Change.Refusal.{refusal_of}
use Rattle.iocm_model.specs.Change.Meaning.{unless_refused, at_node}
use Rattle.iocm_activate.specs.Walked.{outcome_of}

-- what holds anyway holds on an error
pub on_err : {T E : Type 0} {P : Type 0} → (r : Result T E) → P → OnErr r P
on_err (Ok x) p = tt
on_err (Err e) p = p

-- an edit that is accepted means the state after it
pub leaf_done : (n : ℕ) (s t : State) (e : Edit) → refusal_of e s ≡ None → t ≡ state_after e s
    → unless_refused (refusal_of e s) n e s ≡ outcome_of None t (e ∷ [])
leaf_done n s t e accepted state =
    ap (λ why. unless_refused why n e s) accepted ∙ ap (λ u. outcome_of None u (e ∷ [])) (sym state)

-- one that is refused means its refusal, at its node
pub leaf_refused : (n : ℕ) (s t : State) (e : Edit) (why named : Refused) → refusal_of e s ≡ Some why
    → named ≡ at_node n why
    → unless_refused (refusal_of e s) n e s ≡ outcome_of (Some named) t []
leaf_refused n s t e why named due is =
    ap (λ o. unless_refused o n e s) due ∙ ap (λ w. outcome_of (Some w) t []) (sym is)
