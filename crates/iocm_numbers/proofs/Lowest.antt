-- The lowest bit of a set's that isn't set is the lowest free number.
use Rattle.std.proofs.Common.{◌≡◌, ℕ, ◌+◌, ◌<◌, ◌≤◌, Bool, true, false, ◌&&◌, nat_eq, eqb-true, List, Option, Some}
use Rattle.std.proofs.Common.{None, is_some, IsNone, IsSome, IfSome, length, refl, sym, ap, ◌∙◌, arith, nat_lt}
use Rattle.std.proofs.lemmas.Bool.{and_parts, ltb-true, ltb-false}
use Rattle.std.specs.FinMap.{FinMap, get, contains_key, entries, entries_sorted, get-entries}
use Rattle.iocm_types.specs.declared.place.Place.{Place}
use Rattle.iocm_types.specs.declared.place.NumberCell.{NumberCell}
use Rattle.iocm_types.specs.Place.{place_cmp, cell_cmp}
use Rattle.iocm_types.specs.KeyOrder.{cells_total, cells_exact}
use Rattle.iocm_types.proofs.Found.{IsPassing, passing}
use Rattle.iocm_types.proofs.Tests.{present}
use Rattle.iocm_table.specs.Slots.{Stored, rows}
use Rattle.iocm_model.specs.Machine.Numbering.{Numbering, cells_of, device_at}
use Rattle.iocm_model.specs.Change.Renumbering.{numbers_in, lowest_free}
use Rattle.iocm_model.specs.Laws.Numbers.{is_used, IsLowestFree}
use Rattle.iocm_model.proofs.Numbers.Cells.{place, has_number}
use Rattle.iocm_model.proofs.Numbers.Apart.{any_kept, is_used_there}
use Rattle.iocm_model.proofs.Numbers.Lowest.{lowest_free_is_free, lowest_free_is_found}
use Rattle.iocm_numbers.specs.Bits.{is_bit_set, AreAllSet, IsLowestClear}
use Rattle.iocm_numbers.specs.Numbered.{cell_at}
use Rattle.iocm_numbers.specs.TiedTables.{bit_of, AreTied}

module _ (n : Numbering) (css set : ℕ) where
  abbrev cell : ℕ → NumberCell
  cell k = record { css = css; set = set; number = k }

  -- a number that is used has a cell
  used_has_cell : (k : ℕ) → is_used n css set k ≡ true → contains_key (cells_of n) (cell k) ≡ true
  used_has_cell k used =
      let test : NumberCell × ℕ → Bool = λ e. (nat_eq e.0.css css && nat_eq e.0.set set) && nat_eq k e.0.number in
      let found : IsPassing cell_cmp test (entries (cells_of n)) =
      passing cell_cmp cells_total cells_exact test (entries (cells_of n)) (entries_sorted (cells_of n))
      (sym (any_kept (nat_eq k) (λ (e : NumberCell × ℕ). e.0.number)
      (λ (e : NumberCell × ℕ). nat_eq e.0.css css && nat_eq e.0.set set) (entries (cells_of n))) ∙ used) in
      let parts = and_parts (nat_eq found.key.css css && nat_eq found.key.set set) (nat_eq k found.key.number)
      found.passes in
      let within = and_parts (nat_eq found.key.css css) (nat_eq found.key.set set) parts.0 in
      let css_is : found.key.css ≡ css = eqb-true found.key.css css within.0 in
      let set_is : found.key.set ≡ set = eqb-true found.key.set set within.1 in
      let number_is : k ≡ found.key.number = eqb-true k found.key.number parts.1 in
      (λ i. contains_key (cells_of n) (record { css = sym css_is i; set = sym set_is i; number = number_is i }))
      ∙ ap is_some (get-entries (cells_of n) found.key ∙ found.found)

  -- a number that has a cell is used
  cell_is_used : (k : ℕ) → contains_key (cells_of n) (cell k) ≡ true → is_used n css set k ≡ true
  cell_is_used k there = let d = present (get (cells_of n) (cell k)) there in
      is_used_there n (place (cell k) d.0) k (has_number n (cell k) d.0 d.1)

  -- there is one lowest free number
  one_lowest : (a b : ℕ) → IsLowestFree n css set a → IsLowestFree n css set b → a ≡ b
  one_lowest a b p q = by (nat_lt a b) (nat_lt b a) refl refl
    where
      by : (s t : Bool) → nat_lt a b ≡ s → nat_lt b a ≡ t → a ≡ b
      by true t less other = let no : true ≡ false = sym (q.lowest a (ltb-true _ _ less)) ∙ p.free in cc
      by false true less other = let no : true ≡ false = sym (p.lowest b (ltb-true _ _ other)) ∙ q.free in cc
      by false false less other = let x : b ≤ a = ltb-false _ _ less in let y : a ≤ b = ltb-false _ _ other in
          omega (arith, x, y)

  module _ (words : List ℕ) (c6 : css < 6) (s4 : set < 4)
      (bits : (k : ℕ) → k < 65536 → is_bit_set words (bit_of css set 0 + k) ≡ contains_key (cells_of n) (cell k)) where
    -- the lowest clear bit is the lowest free number
    pub lowest_is_free : (number : ℕ) → number < 65536 → IsLowestClear words (bit_of css set 0) number
        → number ≡ lowest_free n css set
    lowest_is_free number most is = one_lowest number (lowest_free n css set) (record {
      free = unused number most is.clear;
      lowest = λ k less. cell_is_used k (sym (bits k (omega (arith, less, most))) ∙ is.lower k less);
    }) (lowest_free_is_free n css set)
      where
        unused : (k : ℕ) → k < 65536 → is_bit_set words (bit_of css set 0 + k) ≡ false → is_used n css set k ≡ false
        unused k below clear = by (is_used n css set k) refl
          where
            by : (b : Bool) → is_used n css set k ≡ b → is_used n css set k ≡ false
            by true used = let no : true ≡ false = sym (used_has_cell k used) ∙ sym (bits k below) ∙ clear in cc
            by false used = used

    -- where all bits are set no number below 65,536 is free
    pub none_is_free : AreAllSet words (bit_of css set 0) 65536 → 65536 ≤ lowest_free n css set
    none_is_free all = by (nat_lt (lowest_free n css set) 65536) refl
      where
        by : (b : Bool) → nat_lt (lowest_free n css set) 65536 ≡ b → 65536 ≤ lowest_free n css set
        by true less =
            let below : lowest_free n css set < 65536 = ltb-true _ _ less in
            let no : true ≡ false = sym
            (cell_is_used (lowest_free n css set)
            (sym (bits (lowest_free n css set) below) ∙ all (lowest_free n css set) below))
            ∙ (lowest_free_is_free n css set).free in cc
        by false not_less = ltb-false _ _ not_less

    -- so of an answer
    pub some_is_lowest : (r : Option ℕ) → IfSome r (λ k. k < 65536) → IfSome r (IsLowestClear words (bit_of css set 0))
        → IfSome r (λ k. k ≡ lowest_free n css set)
    some_is_lowest (Some k) most is = lowest_is_free k most is
    some_is_lowest None most is = tt

-- where fewer than 65,536 numbers are given away there is an answer
pub found_by : (n : Numbering) (css set : ℕ) (r : Option ℕ) → (IsNone r → 65536 ≤ lowest_free n css set)
    → length (numbers_in n css set) < 65536 → IsSome r
found_by n css set (Some k) none few = refl
found_by n css set None none few =
    let past : 65536 ≤ lowest_free n css set = none refl in
    let below : lowest_free n css set < 65536 = lowest_free_is_found n css set 65536 few in
    absurd (omega (arith, past, below))

-- the bits of a channel subsystem and set note its number cells
pub notes_of : (places : Stored Place ℕ) (cells : Stored NumberCell ℕ) (words : List ℕ) → AreTied places cells words
    → (css set : ℕ) → css < 6 → set < 4
    → (k : ℕ) → k < 65536 → is_bit_set words (bit_of css set 0 + k)
    ≡ contains_key (cells_of (rows place_cmp places)) (record { css = css; set = set; number = k })
notes_of places cells words tied css set c6 s4 k most =
    let bit : bit_of css set 0 + k ≡ bit_of css set k = omega arith in
    ap (is_bit_set words) bit ∙ tied.bits css set k c6 s4 most
    ∙ ap (λ (m : FinMap cell_cmp ℕ). contains_key m (record { css = css; set = set; number = k })) tied.same

-- no device has the cell of the lowest free number
pub lowest_cell_free : (n : Numbering) (p : Place) → device_at n (cell_at p (lowest_free n p.css p.set)) ≡ None
lowest_cell_free n p = by (device_at n (cell_at p (lowest_free n p.css p.set))) refl
  where
    by : (o : Option ℕ) → device_at n (cell_at p (lowest_free n p.css p.set)) ≡ o
        → device_at n (cell_at p (lowest_free n p.css p.set)) ≡ None
    by None is = is
    by (Some d) is =
        let no : true ≡ false = sym (cell_is_used n p.css p.set (lowest_free n p.css p.set) (ap is_some is))
        ∙ (lowest_free_is_free n p.css p.set).free in cc
