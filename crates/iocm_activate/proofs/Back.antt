-- Edits that lead back: they do so still where a machine is in the same state and has lost no
-- place, and one after the other.
use Rattle.std.proofs.Common.{◌≡◌, List, [], ◌∷◌, ◌++◌, refl, sym, ap, subst, ◌∙◌}
use Rattle.std.proofs.lemmas.List.{append-nil, append_assoc}
use Rattle.iocm_model.specs.Operation.State.{State, HasLives, IsSound}
use Rattle.iocm_model.specs.Change.Edit.{Edit, state_after}
use Rattle.iocm_model.specs.Change.Inverse.{inverse_of}
use Rattle.iocm_model.specs.Change.Runs.{CarryFreeNumbers}
use Rattle.iocm_model.proofs.Change.EditsGoBack.{lived_after}
use Rattle.iocm_model.proofs.Change.RunsGoBack.{puts_back, run_goes_back}
use Rattle.iocm_tree.specs.Carried.{Carried}
use Rattle.iocm_plant.specs.Operating.{Operating, KeepsRoom}
use Rattle.iocm_plant.specs.Between.{CanStillUnapply, StandsAsBefore}
use Rattle.iocm_plant.specs.declared.touched.Applied.{Applied}
use Rattle.iocm_activate.specs.Told.{way_back, LeadsTo}

-- a machine in the same state stands as before
stands : (p q : Operating) → HasLives q.state → q.state ≡ p.state → KeepsRoom p.room q.room → StandsAsBefore p q
stands p q lived same room = record {
  state = record {
    config = ap (λ (t : State). t.config) same;
    numbers = ap (λ (t : State). t.numbers) same;
    lived = lived;
  };
  room = room;
}

-- edits lead to a state still where the machine is in the state from then, and no place is lost
pub leads_still : CanStillUnapply → (is : List Carried) (s : State) (p q : Operating) → LeadsTo is s p
    → HasLives q.state → q.state ≡ p.state
    → KeepsRoom p.room q.room
    → LeadsTo is s q
leads_still still [] s p q leads lived same room = same ∙ leads
leads_still still (i ∷ is) s p q leads lived same room = (
  still i p q leads.0 (stands p q lived same room),
  λ t after places.
      leads_still still is s (record { state = t.state; room = p.room }) t
      (leads.1 (record { state = t.state; room = p.room }) (after ∙ ap (state_after i.edit) same) refl)
      (subst HasLives (sym after) (lived_after i.edit q.state lived)) refl (subst (KeepsRoom p.room) (sym places) room),
)

-- edits that lead to where others begin, and those others, lead on to where these lead
pub leads_on : CanStillUnapply → (js is : List Carried) (s : State) (p q : Operating) → LeadsTo js p.state q
    → LeadsTo is s p → HasLives q.state
    → KeepsRoom p.room q.room
    → LeadsTo (js ++ is) s q
leads_on still [] is s p q later leads lived room = leads_still still is s p q leads lived later room
leads_on still (j ∷ js) is s p q later leads lived room = (
  later.0,
  λ t after places.
      leads_on still js is s p t (later.1 t after places) leads
      (subst HasLives (sym after) (lived_after j.edit q.state lived))
      (subst (KeepsRoom p.room) (sym places) room),
)

-- the way back of edits and more: that of the later ones first
pub way_back_append : (ds bs : List Applied) → way_back (ds ++ bs) ≡ way_back bs ++ way_back ds
way_back_append [] bs = sym (append-nil (way_back bs))
way_back_append (a ∷ ds) bs =
    ap (λ is. is ++ (a.inverse ∷ [])) (way_back_append ds bs)
    ∙ append_assoc (way_back bs) (way_back ds) (a.inverse ∷ [])

-- what an edit did is undone by its inverse
pub undone : (e : Edit) (s : State) → IsSound s → CarryFreeNumbers (e ∷ []) s
    → state_after (inverse_of e s) (state_after e s) ≡ s
undone e s sound free =
    run_goes_back (e ∷ []) s (state_after e s) sound free
    (record { config = refl; numbers = refl; lived = lived_after e s sound.lived })
    ∙ puts_back (e ∷ []) s sound
