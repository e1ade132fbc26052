-- A number that is there has its place and its cell in the tables.
use Rattle.std.proofs.Common.{◌≡◌, ℕ, is_some, Some, ap, subst, ◌∙◌}
use Rattle.std.specs.FinMap.{FinMap, get, contains_key}
use Rattle.iocm_types.specs.declared.place.Place.{Place}
use Rattle.iocm_types.specs.Place.{place_cmp, cell_cmp}
use Rattle.iocm_table.specs.Slots.{rows}
use Rattle.iocm_model.proofs.Numbers.Cells.{has_cell}
use Rattle.iocm_numbers.specs.Numbered.{Numbered, cell_at, HasRoom}
use Rattle.iocm_numbers.proofs.numbers.Numbers.have_room.Goals as goal

pub returns : goal.returns
returns g c = subst (λ (s : Numbered). (p : Place) (k : ℕ) → get s.numbers p ≡ Some k → HasRoom s p k) c.self.view_is
    (λ p k has. record {
      place_has = c.has_places.ensures p (ap is_some has);
      cell_has = c.has_places-2.ensures (cell_at p k)
          (ap (λ (m : FinMap cell_cmp ℕ). contains_key m (cell_at p k)) c.self.invariant.same
          ∙ has_cell (rows place_cmp c.self.inside.places) p k has);
    })
