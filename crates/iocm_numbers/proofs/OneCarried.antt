-- One number that is carried along is taken only where a device has it.
use Rattle.std.proofs.Common.{◌≡◌, ◌∙◌, ℕ, Bool, true, false, ◌||◌, cond, nat_eq, List, [], ◌∷◌, Option, None, Some}
use Rattle.std.proofs.Common.{refl, sym, ap}
use Rattle.std.proofs.lemmas.Bool.{and_parts, eqb-true}
use Rattle.std.specs.List.{list_any}
use Rattle.std.specs.FinMap.{get, contains_key, entries, entries_sorted, get-entries}
use Rattle.iocm_types.specs.declared.place.Place.{Place}
use Rattle.iocm_types.specs.Place.{place_cmp}
use Rattle.iocm_types.specs.KeyOrder.{places_total, places_exact}
use Rattle.iocm_types.proofs.Found.{none_passes}
use Rattle.iocm_model.specs.Machine.Configuration.{Configuration}
use Rattle.iocm_model.specs.Machine.Numbering.{Numbering, cells_of, device_at, is_reached_at}
use Rattle.iocm_model.specs.Change.Renumbering.{without_leavers, comes_in}
use Rattle.iocm_model.specs.Change.Refusal.{same_cell, has_cell_twice, is_number_taken}
use Rattle.iocm_model.proofs.Numbers.Cells.{has_cell}
use Rattle.iocm_model.proofs.Numbers.Changed.{get_without}
use Rattle.iocm_numbers.specs.Numbered.{cell_at}

module _ (c : Configuration) (n : Numbering) (p : Place) (number : ℕ)
    (free : device_at n (cell_at p number) ≡ None) where
  -- a number that stays was there
  was_there : (r : Bool) (o : Option ℕ) (k : ℕ) → cond r o None ≡ Some k → o ≡ Some k
  was_there true o k is = is
  was_there false o k is = cc

  -- a device that stays has another number
  has_another : (q : Place) (k : ℕ) → get (without_leavers c n) q ≡ Some k → same_cell (p, number) (q, k) ≡ false
  has_another q k has = by (same_cell (p, number) (q, k)) refl
    where
      by : (b : Bool) → same_cell (p, number) (q, k) ≡ b → b ≡ false
      by false is = refl
      by true is =
          let there : get n q ≡ Some k = was_there (is_reached_at c q) (get n q) k (sym (get_without c n q) ∙ has) in
          let parts = and_parts _ _ is in
          let first = and_parts (nat_eq p.css q.css) (nat_eq p.set q.set) parts.0 in
          let same : cell_at p number ≡ cell_at q k =
          λ i. record {
            css = eqb-true p.css q.css first.0 i;
            set = eqb-true p.set q.set first.1 i;
            number = eqb-true number k parts.1 i;
          } in
          let cell : contains_key (cells_of n) (cell_at p number) ≡ true =
          ap (contains_key (cells_of n)) same ∙ has_cell n q k there in
          cc

  -- no device that stays has the number
  pub no_row : list_any (same_cell (p, number)) (entries (without_leavers c n)) ≡ false
  no_row = none_passes place_cmp places_total places_exact (same_cell (p, number)) (entries (without_leavers c n))
      (entries_sorted (without_leavers c n))
      (λ q k is. has_another q k (get-entries (without_leavers c n) q ∙ is))

  taken_by : (b : Bool) (arriving : List (Place × ℕ)) → arriving ≡ cond b ((p, number) ∷ []) []
      → (list_any (λ x. list_any (same_cell x) (entries (without_leavers c n))) arriving || has_cell_twice arriving)
      ≡ false
  taken_by true arriving is = rw (is, no_row) refl
  taken_by false arriving is = rw is refl

  pub one_carried : is_number_taken c n ((p, number) ∷ []) ≡ false
  one_carried = taken_by (comes_in c n (p, number)) _ refl
