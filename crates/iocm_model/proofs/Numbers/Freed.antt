-- None of the numbers that a change freed is taken when it is taken back.
use Rattle.std.proofs.Common.{◌≡◌, ℕ, Bool, true, false, cond, not, ◌&&◌, ◌||◌, nat_eq, eqb-true, List, [], ◌∷◌, Some}
use Rattle.std.proofs.Common.{None, is_some, T, refl, sym, ap, ◌∙◌}
use Rattle.std.proofs.lemmas.Bool.{and_parts, or_from, false_from_ne_true}
use Rattle.std.specs.List.{filter, list_any}
use Rattle.std.specs.FinMap.{find, get, contains_key, entries, entries_sorted, is_sorted, get-entries}
use Rattle.std.specs.FinMap.Entries.{find-where_key, is_sorted-where_key}
use Rattle.iocm_types.specs.declared.place.Place.{Place}
use Rattle.iocm_types.specs.Place.{place_cmp}
use Rattle.iocm_types.specs.KeyOrder.{places_total, places_exact}
use Rattle.iocm_types.proofs.Found.{found_later, found_first, none_passes}
use Rattle.iocm_types.proofs.Tests.{first_holds, second_holds, present}
use Rattle.iocm_types.proofs.Entries.{not_found}
use Rattle.iocm_model.specs.Machine.Configuration.{Configuration}
use Rattle.iocm_model.specs.Machine.Numbering.{Numbering, is_reached_at, AreNumbersOf}
use Rattle.iocm_model.specs.Change.Renumbering.{numbers_after, without_leavers, comes_in}
use Rattle.iocm_model.specs.Change.Refusal.{same_cell, has_cell_twice}
use Rattle.iocm_model.specs.Change.Inverse.{freed_numbers}
use Rattle.iocm_model.specs.Laws.Numbers.{FreedAreNotTaken}
use Rattle.iocm_model.proofs.Numbers.Cells.{IsApart}
use Rattle.iocm_model.proofs.Numbers.Changed.{numbers_after_are_exact, stayers_keep_theirs}
use Rattle.iocm_model.proofs.Numbers.Back.{get_freed}
use Rattle.iocm_model.proofs.Numbers.Apart.{had}

module _ (n : Numbering) (apart : IsApart n) where
  -- places whose numbers are one cell are one place
  one_place : (p q : Place) (j k : ℕ) → get n p ≡ Some j → get n q ≡ Some k → same_cell (p, j) (q, k) ≡ true → p ≡ q
  one_place p q j k is was same =
      let parts = and_parts _ _ same in
      let first = and_parts (nat_eq p.css q.css) (nat_eq p.set q.set) parts.0 in
      apart p q j (eqb-true p.css q.css first.0) (eqb-true p.set q.set first.1) is
      (was ∙ ap Some (sym (eqb-true j k parts.1)))

  -- numbers of two places are two cells
  not_one_cell : (p q : Place) (j k : ℕ) → get n p ≡ Some j → get n q ≡ Some k → (p ≡ q → ⊥)
      → same_cell (p, j) (q, k) ≡ false
  not_one_cell p q j k is was other =
      false_from_ne_true (same_cell (p, j) (q, k)) (λ same. other (one_place p q j k is was same))

  -- no cell comes twice among entries of the numbers
  no_cell_twice : (es : List (Place × ℕ)) → T (is_sorted place_cmp es)
      → ((q : Place) (k : ℕ) → find place_cmp q es ≡ Some k → get n q ≡ Some k)
      → has_cell_twice es ≡ false
  no_cell_twice [] up own = refl
  no_cell_twice (e ∷ es) up own =
      let first : list_any (same_cell e) es ≡ false =
      none_passes place_cmp places_total places_exact (same_cell e) es (second_holds _ _ up)
      (λ q k is. not_one_cell e.0 q e.1 k (own e.0 e.1 (found_first place_cmp places_total places_exact e es))
      (own q k (found_later place_cmp places_total places_exact q e es k (first_holds _ _ up) is))
      (λ same. let none = not_found place_cmp e.0 es (first_holds _ _ up) in
      let some = ap (λ p. find place_cmp p es) same ∙ is in cc)) in
      rw first (no_cell_twice es (second_holds _ _ up)
      (λ q k is. own q k (found_later place_cmp places_total places_exact q e es k (first_holds _ _ up) is)))

module _ (before after : Configuration) (carried : List (Place × ℕ)) (n : Numbering)
    (numbers : AreNumbersOf before n) where
  -- the numbers after the change
  abbrev there : Numbering
  there = numbers_after after carried n

  -- those that stay when it is taken back
  abbrev staying : Numbering
  staying = without_leavers before there

  -- whether a place is reached again and has no number there
  abbrev comes_back : Place → Bool
  comes_back p = is_reached_at before p && not (contains_key there p)

  -- the freed places that come in
  abbrev arriving : List (Place × ℕ)
  arriving = filter (comes_in before there) (freed_numbers n there)

  -- those that come in stand in order
  rising : T (is_sorted place_cmp arriving)
  rising = is_sorted-where_key place_cmp comes_back (freed_numbers n there)
      (is_sorted-where_key place_cmp (λ p. not (contains_key there p)) (entries n) (entries_sorted n))

  -- `arrived`, by the two tests that one passes
  arrived_by : (q : Place) (k : ℕ) (a b : Bool) → contains_key there q ≡ b
      → cond (a && not b) (cond (not b) (get n q) None) None ≡ Some k
      → (contains_key there q ≡ false) × (get n q ≡ Some k)
  arrived_by q k true true e is = cc
  arrived_by q k true false e is = (e, is)
  arrived_by q k false b e is = cc

  -- one that comes in has no number there, and had this one
  arrived : (q : Place) (k : ℕ) → find place_cmp q arriving ≡ Some k
      → (contains_key there q ≡ false) × (get n q ≡ Some k)
  arrived q k is =
      arrived_by q k (is_reached_at before q) (contains_key there q) refl
      (sym (find-where_key place_cmp comes_back q (λ x e. ap comes_back (sym (places_exact q x e)))
      (freed_numbers n there)
      ∙ ap (λ o. cond (comes_back q) o None) (get_freed n there q)) ∙ is)

  -- a number that stays there is the one that its place had
  stayed : (q : Place) (k : ℕ) → get staying q ≡ Some k → (contains_key there q ≡ true) × (get n q ≡ Some k)
  stayed q k is =
      let has = had before there q k is in
      let old = present (get n q) (numbers.exact q ∙ has.0) in
      let in_reach : is_reached_at after q ≡ true =
      sym (numbers_after_are_exact after carried n q) ∙ ap is_some has.1 in
      (ap is_some has.1, old.1 ∙ sym (stayers_keep_theirs after carried n q old.0 in_reach old.1) ∙ has.1)

  -- none of their numbers is held by a place that stays
  none_held : list_any (λ p. list_any (same_cell p) (entries staying)) arriving ≡ false
  none_held =
      none_passes place_cmp places_total places_exact (λ p. list_any (same_cell p) (entries staying)) arriving rising
      (λ p j is. none_passes place_cmp places_total places_exact (same_cell (p, j)) (entries staying)
      (entries_sorted staying)
      (λ q k was.
      let here = stayed q k (get-entries staying q ∙ was) in
      not_one_cell n numbers.apart p q j k (arrived p j is).1 here.1
      (λ same. let gone = (arrived p j is).0 in let stays = ap (contains_key there) same ∙ here.0 in cc)))

  -- none of their numbers comes twice
  none_twice : has_cell_twice arriving ≡ false
  none_twice = no_cell_twice n numbers.apart arriving rising (λ q k is. (arrived q k is).1)

  -- none of their numbers is taken
  none_taken : (list_any (λ p. list_any (same_cell p) (entries staying)) arriving || has_cell_twice arriving) ≡ false
  none_taken = or_from _ _ none_held none_twice

-- none of the freed numbers is taken
pub freed_are_not_taken : FreedAreNotTaken
freed_are_not_taken before after carried n numbers = none_taken before after carried n numbers
