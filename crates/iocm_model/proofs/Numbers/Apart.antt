-- No number comes twice in a channel subsystem and set: not after a change whose carried numbers
-- are free.
use Rattle.std.proofs.Common.{◌≡◌, ℕ, Bool, true, false, cond, not, ◌&&◌, ◌||◌, nat_eq, eq-eqb, List, [], ◌∷◌, map}
use Rattle.std.proofs.Common.{Some, None, is_some, refl, sym, ap, ◌∙◌}
use Rattle.std.proofs.lemmas.Bool.{or_parts, true_from_ne_false}
use Rattle.std.specs.List.{filter, fold, list_any}
use Rattle.std.specs.Ordering.{eq_by_cmp}
use Rattle.std.specs.Cmp.{nat_eq_equiv}
use Rattle.std.specs.FinMap.{get, insert, contains_key, entries, get-entries, get-insert}
use Rattle.iocm_types.specs.declared.place.Place.{Place}
use Rattle.iocm_types.specs.declared.place.NumberCell.{NumberCell}
use Rattle.iocm_types.specs.Place.{place_cmp, cell_cmp}
use Rattle.iocm_types.specs.KeyOrder.{places_total, places_exact, cells_total, cells_exact}
use Rattle.iocm_types.proofs.Found.{same_key, found_fails}
use Rattle.iocm_types.proofs.Tests.{present}
use Rattle.iocm_model.specs.Machine.Configuration.{Configuration}
use Rattle.iocm_model.specs.Machine.Numbering.{Numbering, reached_places, is_reached_at, cells_of}
use Rattle.iocm_model.specs.Change.Renumbering.{lowest_free, without_leavers, with_carried, with_lowest, comes_in}
use Rattle.iocm_model.specs.Laws.Numbers.{is_used, NumbersAfterAreNumbers}
use Rattle.iocm_model.specs.Change.Refusal.{same_cell, has_cell_twice, is_number_taken}
use Rattle.iocm_model.proofs.Numbers.Lowest.{lowest_free_is_free}
use Rattle.iocm_model.proofs.Numbers.Cells.{IsApart, cell, has_cell}
use Rattle.iocm_model.proofs.Numbers.Changed.{comes_new, comes_reached, get_without, stays, before_lowest}
use Rattle.iocm_model.proofs.Numbers.Changed.{numbers_after_are_exact}

-- ---- one number more

module _ (n : Numbering) (apart : IsApart n) (p : Place) (number : ℕ)
    (unused : (q : Place) → q.css ≡ p.css → q.set ≡ p.set → get n q ≡ Some number → ⊥) where
  -- `insert_apart`, by which of the two places was given the number
  apart_by : (a b : Place) (k : ℕ) (s t : Bool) → eq_by_cmp place_cmp a p ≡ s → eq_by_cmp place_cmp b p ≡ t
      → a.css ≡ b.css → a.set ≡ b.set
      → cond s (Some number) (get n a) ≡ Some k → cond t (Some number) (get n b) ≡ Some k → a ≡ b
  apart_by a b k true true e f css set is was =
      same_key place_cmp places_exact a p e ∙ sym (same_key place_cmp places_exact b p f)
  apart_by a b k true false e f css set is was =
      let same : a ≡ p = same_key place_cmp places_exact a p e in
      absurd (unused b (sym css ∙ ap (λ (q : Place). q.css) same) (sym set ∙ ap (λ (q : Place). q.set) same)
      (was ∙ sym is))
  apart_by a b k false true e f css set is was =
      let same : b ≡ p = same_key place_cmp places_exact b p f in
      absurd (unused a (css ∙ ap (λ (q : Place). q.css) same) (set ∙ ap (λ (q : Place). q.set) same) (is ∙ sym was))
  apart_by a b k false false e f css set is was = apart a b k css set is was

  -- no number comes twice when a place is given one that is not used there
  pub insert_apart : IsApart (insert n p number)
  insert_apart a b k css set is was =
      apart_by a b k (eq_by_cmp place_cmp a p) (eq_by_cmp place_cmp b p) refl refl css set
      (sym (get-insert places_total n p number a) ∙ is) (sym (get-insert places_total n p number b) ∙ was)

-- ---- the lowest free numbers

-- the step of `any_kept`, by whether the filter keeps the first
any_by : {A B : Type 0} (test : B → Bool) (g : A → B) (x : A) (xs : List A) (b : Bool)
    → list_any test (map g (cond b (x ∷ xs) xs)) ≡ ((b && test (g x)) || list_any test (map g xs))
any_by test g x xs true = refl
any_by test g x xs false = refl

-- a test of what is made of those that a filter keeps
pub any_kept : {A B : Type 0} (test : B → Bool) (g : A → B) (keep : A → Bool) (xs : List A)
    → list_any test (map g (filter keep xs)) ≡ list_any (λ x. keep x && test (g x)) xs
any_kept test g keep [] = refl
any_kept test g keep (x ∷ xs) =
    any_by test g x (filter keep xs) (keep x) ∙ ap (λ b. (keep x && test (g x)) || b) (any_kept test g keep xs)

module _ (n : Numbering) (p : Place) (k : ℕ) where
  -- a cell of this channel subsystem and set
  abbrev in_set : NumberCell × ℕ → Bool
  in_set e = nat_eq e.0.css p.css && nat_eq e.0.set p.set

  -- the cell with this number
  abbrev is_here : NumberCell × ℕ → Bool
  is_here e = in_set e && nat_eq k e.0.number

  -- a number that has a cell isn't unused
  not_unused : (d : ℕ) → get (cells_of n) (cell p k) ≡ Some d → is_used n p.css p.set k ≡ false → ⊥
  not_unused d is e =
      let here : is_here (cell p k, d) ≡ true =
      (λ i. (eq-eqb p.css p.css refl i && eq-eqb p.set p.set refl i) && eq-eqb k k refl i) in
      let none : list_any is_here (entries (cells_of n)) ≡ false =
      sym (any_kept (nat_eq k) (λ (c : NumberCell × ℕ). c.0.number) in_set (entries (cells_of n))) ∙ e in
      let gone : is_here (cell p k, d) ≡ false =
      found_fails cell_cmp cells_total cells_exact is_here (entries (cells_of n)) (cell p k) d none
      (sym (get-entries (cells_of n) (cell p k)) ∙ is) in
      cc

  -- a number that is given away is used
  pub is_used_there : get n p ≡ Some k → is_used n p.css p.set k ≡ true
  is_used_there has =
      let there = present (get (cells_of n) (cell p k)) (has_cell n p k has) in
      true_from_ne_false (is_used n p.css p.set k) (not_unused there.0 there.1)

-- no place has the lowest free number
lowest_unused : (n : Numbering) (p q : Place) → q.css ≡ p.css → q.set ≡ p.set
    → get n q ≡ Some (lowest_free n p.css p.set) → ⊥
lowest_unused n p q css set has =
    let number = lowest_free n p.css p.set in
    let used : is_used n p.css p.set number ≡ true =
    (λ i. is_used n (sym css i) (sym set i) number) ∙ is_used_there n q number has in
    let free : is_used n p.css p.set number ≡ false = (lowest_free_is_free n p.css p.set).free in
    cc

-- the step of `lowest_apart`, by whether the place has a number
lowest_apart_by : (n : Numbering) (p : Place) (b : Bool) → IsApart n
    → IsApart (cond b n (insert n p (lowest_free n p.css p.set)))
lowest_apart_by n p true apart = apart
lowest_apart_by n p false apart = insert_apart n apart p (lowest_free n p.css p.set) (lowest_unused n p)

-- no number comes twice when places get the lowest free ones
pub lowest_apart : (n : Numbering) (ps : List Place) → IsApart n → IsApart (fold with_lowest n ps)
lowest_apart n [] apart = apart
lowest_apart n (p ∷ ps) apart = lowest_apart (with_lowest n p) ps (lowest_apart_by n p (contains_key n p) apart)

-- ---- one cell

-- numbers that are one cell
pub one_cell : (a b : Place × ℕ) → a.0.css ≡ b.0.css → a.0.set ≡ b.0.set → a.1 ≡ b.1 → same_cell a b ≡ true
one_cell a b css set number =
    λ i. eq-eqb a.0.css b.0.css css i && eq-eqb a.0.set b.0.set set i && eq-eqb a.1 b.1 number i

-- the order of the two doesn't matter
pub either_way : (a b : Place × ℕ) → same_cell a b ≡ same_cell b a
either_way a b = λ i. nat_eq_equiv.symm a.0.css b.0.css i && nat_eq_equiv.symm a.0.set b.0.set i
    && nat_eq_equiv.symm a.1 b.1 i

-- ---- carried numbers

-- a test that fails at all fails at all behind the first
any_behind : {A : Type 0} (test : A → Bool) (x : A) (xs : List A) (b : Bool)
    → list_any test (cond b (x ∷ xs) xs) ≡ false → list_any test xs ≡ false
any_behind test x xs true none = (or_parts _ _ none).1
any_behind test x xs false none = none

-- where none comes twice none does behind the first
twice_behind : (x : Place × ℕ) (xs : List (Place × ℕ)) (b : Bool) → has_cell_twice (cond b (x ∷ xs) xs) ≡ false
    → has_cell_twice xs ≡ false
twice_behind x xs true once = (or_parts _ _ once).1
twice_behind x xs false once = once

module _ (c : Configuration) (n : Numbering) where
  -- those of the carried that come in
  abbrev arriving : List (Place × ℕ) → List (Place × ℕ)
  arriving xs = filter (comes_in c n) xs

  -- numbers m on the way, before these are carried in: none of the carried ones is there, nor comes
  -- twice
  pub record IsFreeFor (m : Numbering) (xs : List (Place × ℕ)) : Type 0 where
    pub apart : IsApart m
    pub free : (q : Place) (k : ℕ) → get m q ≡ Some k → list_any (same_cell (q, k)) (arriving xs) ≡ false
    pub once : has_cell_twice (arriving xs) ≡ false
    pub old : (p : Place) → is_reached_at c p ≡ true → contains_key m p ≡ false → contains_key n p ≡ false

  -- a number that is there after one was carried in isn't carried again, by whether it is that
  -- one's place
  still_free_by : (m : Numbering) (x : Place × ℕ) (xs : List (Place × ℕ)) (q : Place) (k : ℕ) (b : Bool)
      → eq_by_cmp place_cmp q x.0 ≡ b
      → list_any (same_cell x) xs ≡ false → (get m q ≡ Some k → list_any (same_cell (q, k)) xs ≡ false)
      → cond b (Some x.1) (get m q) ≡ Some k → list_any (same_cell (q, k)) xs ≡ false
  still_free_by m x xs q k true e once free is =
      let place : q ≡ x.0 = same_key place_cmp places_exact q x.0 e in
      let number : k ≡ x.1 = cc in
      ap (λ (y : Place × ℕ). list_any (same_cell y) xs) (λ i. (place i, number i)) ∙ once
  still_free_by m x xs q k false e once free is = free is

  -- a place that has none after one was carried in had none before, by whether it is that one's
  -- place
  still_old_by : (m : Numbering) (x : Place × ℕ) (p : Place) (b : Bool) → eq_by_cmp place_cmp p x.0 ≡ b
      → is_some (cond b (Some x.1) (get m p)) ≡ false → contains_key m p ≡ false
  still_old_by m x p true e none = cc
  still_old_by m x p false e none = none

  -- what is free for the carried places is free for the rest after the first, by whether that comes
  -- in
  pub step_by : (m : Numbering) (x : Place × ℕ) (xs : List (Place × ℕ)) (b : Bool)
      → (is_reached_at c x.0 && not (contains_key m x.0)) ≡ b
      → IsFreeFor m (x ∷ xs) → IsFreeFor (cond b (insert m x.0 x.1) m) xs
  step_by m x xs true e h =
      let in_reach : is_reached_at c x.0 ≡ true = comes_reached c m x e in
      let new : contains_key n x.0 ≡ false = h.old x.0 in_reach (comes_new c m x e) in
      let comes : comes_in c n x ≡ true = (λ i. in_reach i && not (new i)) in
      let first : arriving (x ∷ xs) ≡ x ∷ arriving xs = ap (λ b. cond b (x ∷ arriving xs) (arriving xs)) comes in
      let once : (list_any (same_cell x) (arriving xs) || has_cell_twice (arriving xs)) ≡ false =
      sym (ap has_cell_twice first) ∙ h.once in
      record {
        apart = insert_apart m h.apart x.0 x.1 (λ q css set has.
            let none : same_cell (q, x.1) x ≡ false =
            (or_parts _ _ (sym (ap (list_any (same_cell (q, x.1))) first) ∙ h.free q x.1 has)).0 in
            let all : same_cell (q, x.1) x ≡ true = one_cell (q, x.1) x css set refl in cc);
        free = λ q k has.
            still_free_by m x (arriving xs) q k (eq_by_cmp place_cmp q x.0) refl (or_parts _ _ once).0
            (λ is. (or_parts _ _ (sym (ap (list_any (same_cell (q, k))) first) ∙ h.free q k is)).1)
            (sym (get-insert places_total m x.0 x.1 q) ∙ has);
        once = (or_parts _ _ once).1;
        old = λ p state_reached none.
            h.old p state_reached (still_old_by m x p (eq_by_cmp place_cmp p x.0) refl
            (sym (ap is_some (get-insert places_total m x.0 x.1 p)) ∙ none));
      }
  step_by m x xs false e h = record {
    apart = h.apart;
    free = λ q k has. any_behind (same_cell (q, k)) x (arriving xs) (comes_in c n x) (h.free q k has);
    once = twice_behind x (arriving xs) (comes_in c n x) h.once;
    old = h.old;
  }

  -- no number comes twice when free ones are carried in
  pub carried_apart : (m : Numbering) (xs : List (Place × ℕ)) → IsFreeFor m xs → IsApart (fold (with_carried c) m xs)
  carried_apart m [] h = h.apart
  carried_apart m (x ∷ xs) h =
      carried_apart (with_carried c m x) xs (step_by m x xs (is_reached_at c x.0 && not (contains_key m x.0)) refl h)

  -- `had`, by whether the place is reached
  had_by : (p : Place) (k : ℕ) (b : Bool) → is_reached_at c p ≡ b → cond b (get n p) None ≡ Some k
      → (is_reached_at c p ≡ true) × (get n p ≡ Some k)
  had_by p k true e is = (e, is)
  had_by p k false e is = cc

  -- what one that stays has it had
  pub had : (p : Place) (k : ℕ) → get (without_leavers c n) p ≡ Some k → (is_reached_at c p ≡ true) × (get n p ≡ Some k)
  had p k is = had_by p k (is_reached_at c p) refl (sym (get_without c n p) ∙ is)

  -- a number of a place that stays isn't among those that come in
  free_of : (q : Place) (k : ℕ) (xs : List (Place × ℕ)) → get (without_leavers c n) q ≡ Some k
      → list_any (λ x. list_any (same_cell x) (entries (without_leavers c n))) xs ≡ false
      → list_any (same_cell (q, k)) xs ≡ false
  free_of q k [] has none = refl
  free_of q k (x ∷ xs) has none =
      let staying = without_leavers c n in
      let first : same_cell (q, k) x ≡ false = either_way (q, k) x
      ∙ found_fails place_cmp places_total places_exact (same_cell x) (entries staying) q k (or_parts _ _ none).0
      (sym (get-entries staying q) ∙ has) in
      rw first (free_of q k xs has (or_parts _ _ none).1)

  -- the carried numbers are free where none is taken
  pub free_for_carried : IsApart n → (xs : List (Place × ℕ)) → is_number_taken c n xs ≡ false
      → IsFreeFor (without_leavers c n) xs
  free_for_carried apart xs none = record {
    apart = λ p q k css set is was. apart p q k css set (had p k is).1 (had q k was).1;
    free = λ q k has. free_of q k (arriving xs) has (or_parts _ _ none).0;
    once = (or_parts _ _ none).1;
    old = λ p state_reached out. ap is_some (sym (stays c n p state_reached)) ∙ out;
  }

-- no number comes twice after a change, where none did before and no carried number is taken
pub numbers_after_are_numbers : NumbersAfterAreNumbers
numbers_after_are_numbers before after carried n numbers free = record {
  exact = numbers_after_are_exact after carried n;
  apart = lowest_apart (before_lowest after carried n) (reached_places after)
      (carried_apart after n (without_leavers after n) carried (free_for_carried after n numbers.apart carried free));
}
