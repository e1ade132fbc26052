-- The steps together: what leaves has left once, the same numbers come in afterwards, and room that
-- was made is there. Places that rise are apart.
use Rattle.std.proofs.Common.{◌≡◌, ℕ, Bool, true, false, cond, not, ◌&&◌, ◌||◌, List, [], ◌∷◌, Option, None, is_some, T}
use Rattle.std.proofs.Common.{refl, sym, ap, subst, ◌∙◌}
use Rattle.std.specs.List.{list_any, filter}
use Rattle.std.specs.Ordering.{eq_by_cmp, is_eq}
use Rattle.std.specs.FinMap.{get, entries, same_map}
use Rattle.iocm_types.specs.declared.place.Place.{Place}
use Rattle.iocm_types.specs.declared.place.NumberCell.{NumberCell}
use Rattle.iocm_types.specs.Place.{place_cmp, cell_cmp}
use Rattle.iocm_types.specs.KeyOrder.{places_total, places_exact}
use Rattle.iocm_types.proofs.Found.{ties_itself}
use Rattle.iocm_model.specs.Machine.Configuration.{Configuration}
use Rattle.iocm_model.specs.Machine.Numbering.{Numbering, is_reached_at}
use Rattle.iocm_model.specs.Change.Renumbering.{comes_in, without_leavers}
use Rattle.iocm_model.specs.Change.Refusal.{is_number_taken, same_cell, has_cell_twice}
use Rattle.iocm_model.proofs.Numbers.Changed.{get_without}
use Rattle.iocm_numbers.specs.Numbered.{Numbered, cell_at, HasRoom, HasSameRoom}
use Rattle.iocm_numbers.specs.Renumbering.{Rise}
use Rattle.iocm_numbers.proofs.Restored.{AreApart}

-- a place is one of these
abbrev is_one_of : Place → List Place → Bool
is_one_of p ps = list_any (eq_by_cmp place_cmp p) ps

-- ---- those that have left

-- those that have left have left
pub left_once : (c : Configuration) (n : Numbering) → without_leavers c (without_leavers c n) ≡ without_leavers c n
left_once c n = same_map places_total places_exact _ _
    (λ q. get_without c (without_leavers c n) q ∙ ap (λ o. cond (is_reached_at c q) o None) (get_without c n q)
    ∙ by (is_reached_at c q) (get n q) ∙ sym (get_without c n q))
  where
    by : (r : Bool) (x : Option ℕ) → cond r (cond r x None) None ≡ cond r x None
    by true x = refl
    by false x = refl

-- the same come in
comes_same : (c : Configuration) (n : Numbering) (x : Place × ℕ) → comes_in c (without_leavers c n) x ≡ comes_in c n x
comes_same c n x = ap (λ o. is_reached_at c x.0 && not (is_some o)) (get_without c n x.0)
    ∙ by (is_reached_at c x.0) (get n x.0)
  where
    by : (r : Bool) (o : Option ℕ) → (r && not (is_some (cond r o None))) ≡ (r && not (is_some o))
    by true o = refl
    by false o = refl

-- and the same numbers are taken
pub taken_same : (c : Configuration) (n : Numbering) (xs : List (Place × ℕ))
    → is_number_taken c (without_leavers c n) xs ≡ is_number_taken c n xs
taken_same c n xs = λ i.
    list_any (λ p. list_any (same_cell p) (entries (left_once c n i))) (filter (λ x. comes_same c n x i) xs)
    || has_cell_twice (filter (λ x. comes_same c n x i) xs)

-- ---- the places that are touched

-- places that rise are apart
pub risen_apart : (ps : List Place) → Rise ps → AreApart ps
risen_apart [] rise = tt
risen_apart (p ∷ ps) rise = (by (is_one_of p ps) refl, risen_apart ps rise.1)
  where
    by : (b : Bool) → is_one_of p ps ≡ b → is_one_of p ps ≡ false
    by false is = is
    by true is = let no : true ≡ false = sym (ties_itself place_cmp places_total p) ∙ ap is_eq (rise.0 p is) in cc

-- ---- room

-- what has room has it where the same numbers have room
pub room_in : (n m : Numbered) → HasSameRoom n m → (p : Place) (k : ℕ) → HasRoom m p k → HasRoom n p k
room_in n m same p k h = record {
  place_has = subst (λ (ps : List Place). T (list_any (eq_by_cmp place_cmp p) ps)) (sym same.same_places) h.place_has;
  cell_has = subst (λ (cs : List NumberCell). T (list_any (eq_by_cmp cell_cmp (cell_at p k)) cs)) (sym same.same_cells)
      h.cell_has;
}
