-- The number cells of numbers: a number that is taken back frees its number cell, and no other.
use Rattle.std.proofs.Common.{◌≡◌, ℕ, Bool, true, false, cond, Option, Some, None, is_some, refl, sym, ap, ◌∙◌}
use Rattle.std.specs.Ordering.{eq_by_cmp}
use Rattle.std.specs.FinMap.{get, remove, contains_key, get-remove, same_map}
use Rattle.iocm_types.specs.declared.place.Place.{Place}
use Rattle.iocm_types.specs.declared.place.NumberCell.{NumberCell}
use Rattle.iocm_types.specs.Place.{place_cmp, cell_cmp}
use Rattle.iocm_types.specs.KeyOrder.{places_total, places_exact, cells_total, cells_exact}
use Rattle.iocm_types.proofs.Found.{same_key, ties_itself}
use Rattle.iocm_model.specs.Machine.Numbering.{Numbering, cells_of}
use Rattle.iocm_model.proofs.Numbers.Cells.{IsApart, cell, place, has_number, has_cell, has_device}

-- two answers of which each value of the one is the other's are equal, if the one is there whenever
-- the other is
pub same_answer : (a b : Option ℕ) → ((k : ℕ) → a ≡ Some k → b ≡ Some k) → ((k : ℕ) → b ≡ Some k → is_some a ≡ true)
    → a ≡ b
same_answer (Some x) b there here = sym (there x refl)
same_answer None None there here = refl
same_answer None (Some y) there here = let none = here y refl in cc

-- what was there but for one key is there still
kept_by : (b : Bool) (x : Option ℕ) (k : ℕ) → cond b None x ≡ Some k → (b ≡ false) × (x ≡ Some k)
kept_by true x k is = cc
kept_by false x k is = (refl, is)

stays_by : (b : Bool) (x : Option ℕ) (k : ℕ) → (b ≡ true → ⊥) → x ≡ Some k → cond b None x ≡ Some k
stays_by true x k apart is = absurd (apart refl)
stays_by false x k apart is = is

module _ (n : Numbering) (apart : IsApart n) (p : Place) (number : ℕ) (has : get n p ≡ Some number) where
  -- what is left is apart
  pub remove_apart : IsApart (remove n p)
  remove_apart a b k css set is was =
      apart a b k css set (kept_by _ _ k (sym (get-remove places_total n p a) ∙ is)).1
      (kept_by _ _ k (sym (get-remove places_total n p b) ∙ was)).1

  -- a cell that is left was there, and is another
  left_was : (q : NumberCell) (d : ℕ) → get (cells_of (remove n p)) q ≡ Some d
      → get (remove (cells_of n) (cell p number)) q ≡ Some d
  left_was q d is =
      let left = kept_by _ _ q.number
      (sym (get-remove places_total n p (place q d)) ∙ has_number (remove n p) q d is) in
      let other : eq_by_cmp cell_cmp q (cell p number) ≡ true → ⊥ = λ e.
      let same : q ≡ cell p number = same_key cell_cmp cells_exact q (cell p number) e in
      let one : place q d ≡ p =
      apart (place q d) p number (ap (λ (c : NumberCell). c.css) same) (ap (λ (c : NumberCell). c.set) same)
      (left.1 ∙ ap (λ (c : NumberCell). Some c.number) same) has in
      let tie : eq_by_cmp place_cmp (place q d) p ≡ true =
      ap (λ (x : Place). eq_by_cmp place_cmp x p) one ∙ ties_itself place_cmp places_total p in
      let no : true ≡ false = sym tie ∙ left.0 in cc in
      get-remove cells_total (cells_of n) (cell p number) q
      ∙ stays_by _ _ d other (has_device n apart (place q d) q.number left.1)

  -- another cell is left
  was_left : (q : NumberCell) (d : ℕ) → get (remove (cells_of n) (cell p number)) q ≡ Some d
      → contains_key (cells_of (remove n p)) q ≡ true
  was_left q d is =
      let was = kept_by _ _ d (sym (get-remove cells_total (cells_of n) (cell p number) q) ∙ is) in
      let there : get n (place q d) ≡ Some q.number = has_number n q d was.1 in
      let other : eq_by_cmp place_cmp (place q d) p ≡ true → ⊥ = λ e.
      let same : place q d ≡ p = same_key place_cmp places_exact (place q d) p e in
      let numbers : Some q.number ≡ Some number = sym there ∙ ap (get n) same ∙ has in
      let one : cell (place q d) q.number ≡ cell p number = λ i. cell (same i) (some_is numbers i) in
      let tie : eq_by_cmp cell_cmp q (cell p number) ≡ true =
      ap (λ (x : NumberCell). eq_by_cmp cell_cmp x (cell p number)) one
      ∙ ties_itself cell_cmp cells_total (cell p number) in
      let no : true ≡ false = sym tie ∙ was.0 in cc in
      has_cell (remove n p) (place q d) q.number
      (get-remove places_total n p (place q d) ∙ stays_by _ _ q.number other there)
    where
      some_is : {a b : ℕ} → Some a ≡ Some b → a ≡ b
      some_is e = ap (λ o. value_or o) e
        where
          value_or : Option ℕ → ℕ
          value_or (Some x) = x
          value_or None = 0

  -- the cells are those that were there but for its cell
  pub cells_remove : cells_of (remove n p) ≡ remove (cells_of n) (cell p number)
  cells_remove = same_map cells_total cells_exact _ _ (λ q. same_answer _ _ (left_was q) (was_left q))
