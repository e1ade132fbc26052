-- The three tables of numbers say the same: at first, with one number more, and with one less.
use Rattle.std.proofs.Common.{◌≡◌, ◌≢◌, ℕ, ◌<◌, Bool, true, false, cond, List, [], length, Option, Some, None, is_some}
use Rattle.std.proofs.Common.{get_or, nat_lt, subst, nat_eq, replicate, refl, sym, ap, ◌∙◌, arith, ◌/◌, ◌%◌}
use Rattle.std.specs.Int.{bit_at}
use Rattle.std.proofs.lemmas.Nat.Bits.{bit_at-zero}
use Rattle.std.proofs.lemmas.List.{get_or-replicate, get_or_past, length-replicate}
use Rattle.std.proofs.lemmas.Bool.{ltb-true, ltb-false}
use Rattle.std.specs.Cmp.{Equal-is}
use Rattle.std.specs.Ordering.{eq_by_cmp}
use Rattle.std.specs.FinMap.{FinMap, get, insert, remove, empty, contains_key, from_sorted, get-insert, get-remove}
use Rattle.std.specs.FinMap.{get-empty, get_tied, len-entries, empty_of_len, entries-from_sorted, same_map}
use Rattle.iocm_types.specs.declared.place.Place.{Place}
use Rattle.iocm_types.specs.declared.place.NumberCell.{NumberCell}
use Rattle.iocm_types.specs.Place.{place_cmp, cell_cmp}
use Rattle.iocm_types.specs.KeyOrder.{places_total, places_exact, cells_total, cells_exact}
use Rattle.iocm_types.proofs.Found.{same_key, ties_itself}
use Rattle.iocm_table.specs.Slots.{Stored, rows}
use Rattle.iocm_model.specs.Machine.Numbering.{Numbering, cells_of, device_at}
use Rattle.iocm_model.proofs.Numbers.Cells.{IsApart, has_device}
use Rattle.iocm_model.proofs.Numbers.Apart.{insert_apart}
use Rattle.iocm_numbers.specs.Bits.{is_bit_set}
use Rattle.iocm_numbers.specs.Numbered.{cell_at}
use Rattle.iocm_numbers.specs.TiedTables.{bit_of, all_words, AreTied}
use Rattle.iocm_numbers.proofs.OneMore.{no_cells, cells_insert}
use Rattle.iocm_numbers.proofs.OneLess.{remove_apart, cells_remove}

-- cells of one bit are one cell
pub one_bit : (c d : NumberCell) → c.set < 4 → c.number < 65536 → d.set < 4 → d.number < 65536
    → bit_of c.css c.set c.number ≡ bit_of d.css d.set d.number → c ≡ d
one_bit c d cs cn ds dn is =
    let css : c.css ≡ d.css = omega (arith, is, cs, cn, ds, dn) in
    let set : c.set ≡ d.set = omega (arith, is, cs, cn, ds, dn) in
    let number : c.number ≡ d.number = omega (arith, is, cs, cn, ds, dn) in
    λ i. record { css = css i; set = set i; number = number i }

-- words that are 0
zero_at : (n i : ℕ) → ◌≡◌ {A = ℕ} (get_or (replicate n 0) i 0) 0
zero_at n i = by (nat_lt i n) refl
  where
    by : (b : Bool) → nat_lt i n ≡ b → ◌≡◌ {A = ℕ} (get_or (replicate n 0) i 0) 0
    by true less = get_or-replicate n i 0 0 (ltb-true _ _ less)
    by false past = get_or_past (replicate n 0) i 0 (omega (arith, ltb-false _ _ past, length-replicate {A = ℕ} n 0))

-- in words that are 0 no bit is set
pub none_set : (n bit : ℕ) → is_bit_set (replicate n 0) bit ≡ false
none_set n bit = ap (λ w. nat_eq (bit_at w (bit % 64)) 1) (zero_at n (bit / 64))
    ∙ ap (λ b. nat_eq b 1) (bit_at-zero (bit % 64))

-- tables with nothing in them
pub tied_new : (places : Stored Place ℕ) (cells : Stored NumberCell ℕ) (words : List ℕ) (n : ℕ)
    → rows place_cmp places ≡ empty → rows cell_cmp cells ≡ empty
    → n ≡ all_words → words ≡ replicate n 0 → AreTied places cells words
tied_new places cells words n none none_too all zeros = record {
  same = none_too ∙ sym empty_cells ∙ ap cells_of (sym none);
  apart = λ p q number css set has. let no : None ≡ Some number =
      sym (get-empty place_cmp p) ∙ ap (λ (m : Numbering). get m p) (sym none) ∙ has in cc;
  small = λ p number has. let no : None ≡ Some number =
      sym (get-empty place_cmp p) ∙ ap (λ (m : Numbering). get m p) (sym none) ∙ has in cc;
  whole = ap length zeros ∙ length-replicate {A = ℕ} n 0 ∙ all;
  bits = λ css set number c6 s4 most. ap (λ (ws : List ℕ). is_bit_set ws (bit_of css set number)) zeros
      ∙ none_set n (bit_of css set number)
      ∙ sym (ap (λ (m : FinMap cell_cmp ℕ). contains_key m (record { css = css; set = set; number = number })) none_too
      ∙ ap is_some (get-empty {X = ℕ} cell_cmp (record { css = css; set = set; number = number })));
}
  where
    none_made : from_sorted {X = ℕ} {R = place_cmp} [] ≡ empty
    none_made = empty_of_len _ (len-entries _ ∙ ap length (entries-from_sorted place_cmp [] tt))

    empty_cells : cells_of empty ≡ empty
    empty_cells = ap cells_of (sym none_made) ∙ no_cells

-- a bit was set or cleared, and no other
pub record IsWritten (old new : List ℕ) (bit : ℕ) (b : Bool) : Type 0 where
  pub here : is_bit_set new bit ≡ b
  pub others : (other : ℕ) → other ≢ bit → is_bit_set new other ≡ is_bit_set old other
  pub len : length new ≡ length old

some_by : (b : Bool) (d : ℕ) (x : Option ℕ) → is_some (cond b (Some d) x) ≡ cond b true (is_some x)
some_by true d x = refl
some_by false d x = refl

none_by : (b : Bool) (x : Option ℕ) → is_some (cond b None x) ≡ cond b false (is_some x)
none_by true x = refl
none_by false x = refl

module _ (places new_places : Stored Place ℕ) (cells new_cells : Stored NumberCell ℕ) (words new_words : List ℕ)
    (place : Place) (number : ℕ) (set : place.set < 4) (most : number < 65536) (tied : AreTied places cells words) where
  abbrev numbers : Numbering
  numbers = rows place_cmp places

  -- a bit after a cell has come or gone, by whether it is that cell's
  bits_by : (b : Bool) → IsWritten words new_words (bit_of place.css place.set number) b
      → ((q : NumberCell) → contains_key (rows cell_cmp new_cells) q
      ≡ cond (eq_by_cmp cell_cmp q (cell_at place number)) b (contains_key (rows cell_cmp cells) q))
      → (css s k : ℕ) → css < 6 → s < 4 → k < 65536 → (t : Bool)
      → eq_by_cmp cell_cmp (record { css = css; set = s; number = k }) (cell_at place number) ≡ t
      → is_bit_set new_words (bit_of css s k)
      ≡ contains_key (rows cell_cmp new_cells) (record { css = css; set = s; number = k })
  bits_by b written there css s k c6 s4 most_k true is =
      let q : NumberCell = record { css = css; set = s; number = k } in
      let same : q ≡ cell_at place number = same_key cell_cmp cells_exact q (cell_at place number) is in
      ap (λ (x : NumberCell). is_bit_set new_words (bit_of x.css x.set x.number)) same ∙ written.here
      ∙ sym (there q ∙ ap (λ t. cond t b (contains_key (rows cell_cmp cells) q)) is)
  bits_by b written there css s k c6 s4 most_k false is =
      let q : NumberCell = record { css = css; set = s; number = k } in
      written.others (bit_of css s k) (λ e.
      let same : q ≡ cell_at place number = one_bit q (cell_at place number) s4 most_k set most e in
      let no : true ≡ false = sym
      (ap (λ (x : NumberCell). eq_by_cmp cell_cmp x (cell_at place number)) same
      ∙ ties_itself cell_cmp cells_total (cell_at place number)) ∙ is in cc)
      ∙ tied.bits css s k c6 s4 most_k
      ∙ sym (there q ∙ ap (λ t. cond t b (contains_key (rows cell_cmp cells) q)) is)

  -- with a number more
  pub tied_more : place.device < 65536 → get numbers place ≡ None → device_at numbers (cell_at place number) ≡ None
      → rows place_cmp new_places ≡ insert numbers place number
      → rows cell_cmp new_cells ≡ insert (rows cell_cmp cells) (cell_at place number) place.device
      → IsWritten words new_words (bit_of place.css place.set number) true → AreTied new_places new_cells new_words
  tied_more low new free more more_cells written = record {
    same = more_cells ∙ ap (λ (m : FinMap cell_cmp ℕ). insert m (cell_at place number) place.device) tied.same
        ∙ sym (cells_insert numbers place number new free) ∙ ap cells_of (sym more);
    apart = subst IsApart (sym more) (insert_apart numbers tied.apart place number unused);
    small = λ p k has. small_by p k (eq_by_cmp place_cmp p place) refl
        (sym (ap (λ (m : Numbering). get m p) more ∙ get-insert places_total numbers place number p) ∙ has);
    whole = written.len ∙ tied.whole;
    bits = λ css s k c6 s4 most_k. bits_by true written there css s k c6 s4 most_k _ refl;
  }
    where
      small_by : (p : Place) (k : ℕ) (b : Bool) → eq_by_cmp place_cmp p place ≡ b
          → cond b (Some number) (get numbers p) ≡ Some k → p.device < 65536
      small_by p k true is has =
          subst (λ (q : Place). q.device < 65536) (sym (same_key place_cmp places_exact p place is)) low
      small_by p k false is has = tied.small p k has

      unused : (q : Place) → q.css ≡ place.css → q.set ≡ place.set → get numbers q ≡ Some number → ⊥
      unused q css s has =
          let held = has_device numbers tied.apart q number has in
          let none : None ≡ Some q.device =
          sym free ∙ (λ i. get (cells_of numbers) (record { css = sym css i; set = sym s i; number = number }))
          ∙ held in cc

      there : (q : NumberCell)
          → contains_key (rows cell_cmp new_cells) q
          ≡ cond (eq_by_cmp cell_cmp q (cell_at place number)) true (contains_key (rows cell_cmp cells) q)
      there q = ap (λ (m : FinMap cell_cmp ℕ). contains_key m q) more_cells
          ∙ ap is_some (get-insert cells_total (rows cell_cmp cells) (cell_at place number) place.device q)
          ∙ some_by (eq_by_cmp cell_cmp q (cell_at place number)) place.device (get (rows cell_cmp cells) q)

  -- with one less
  pub tied_less : get numbers place ≡ Some number
      → rows place_cmp new_places ≡ remove numbers place
      → rows cell_cmp new_cells ≡ remove (rows cell_cmp cells) (cell_at place number)
      → IsWritten words new_words (bit_of place.css place.set number) false → AreTied new_places new_cells new_words
  tied_less has less less_cells written = record {
    same = less_cells ∙ ap (λ (m : FinMap cell_cmp ℕ). remove m (cell_at place number)) tied.same
        ∙ sym (cells_remove numbers tied.apart place number has) ∙ ap cells_of (sym less);
    apart = subst IsApart (sym less) (remove_apart numbers tied.apart place number has);
    small = λ p k there. tied.small p k (was_there p k (eq_by_cmp place_cmp p place)
        (sym (ap (λ (m : Numbering). get m p) less ∙ get-remove places_total numbers place p) ∙ there));
    whole = written.len ∙ tied.whole;
    bits = λ css s k c6 s4 most_k. bits_by false written there css s k c6 s4 most_k _ refl;
  }
    where
      there : (q : NumberCell)
          → contains_key (rows cell_cmp new_cells) q
          ≡ cond (eq_by_cmp cell_cmp q (cell_at place number)) false (contains_key (rows cell_cmp cells) q)
      there q = ap (λ (m : FinMap cell_cmp ℕ). contains_key m q) less_cells
          ∙ ap is_some (get-remove cells_total (rows cell_cmp cells) (cell_at place number) q)
          ∙ none_by (eq_by_cmp cell_cmp q (cell_at place number)) (get (rows cell_cmp cells) q)

      was_there : (p : Place) (k : ℕ) (b : Bool) → cond b None (get numbers p) ≡ Some k → get numbers p ≡ Some k
      was_there p k true is = cc
      was_there p k false is = is

-- the same at a cell that is the number's
module _ (places new_places : Stored Place ℕ) (cells new_cells : Stored NumberCell ℕ) (words new_words : List ℕ)
    (place : Place) (number : ℕ)
    (tied : AreTied places cells words) (cell : NumberCell) (is : cell ≡ cell_at place number) (set : cell.set < 4)
    (most : cell.number < 65536)
    (bit : ℕ) (bit_is : bit ≡ bit_of cell.css cell.set cell.number) where
  -- what holds of the bit of a cell holds of the number's
  written_at : (b : Bool) → IsWritten words new_words bit b
      → IsWritten words new_words (bit_of place.css place.set number) b
  written_at b = subst (λ k. IsWritten words new_words k b)
      (bit_is ∙ ap (λ (c : NumberCell). bit_of c.css c.set c.number) is)

  pub tied_with : place.device < 65536 → get (rows place_cmp places) place ≡ None
      → device_at (rows place_cmp places) (cell_at place number) ≡ None
      → rows place_cmp new_places ≡ insert (rows place_cmp places) place number
      → rows cell_cmp new_cells ≡ insert (rows cell_cmp cells) cell place.device
      → IsWritten words new_words bit true → AreTied new_places new_cells new_words
  tied_with low new free more more_cells written =
      tied_more places new_places cells new_cells words new_words place number
      (subst (λ (c : NumberCell). c.set < 4) is set) (subst (λ (c : NumberCell). c.number < 65536) is most)
      tied low new free more (more_cells ∙ ap (λ (c : NumberCell). insert (rows cell_cmp cells) c place.device) is)
      (written_at true written)

  pub tied_without : get (rows place_cmp places) place ≡ Some number
      → rows place_cmp new_places ≡ remove (rows place_cmp places) place
      → rows cell_cmp new_cells ≡ remove (rows cell_cmp cells) cell
      → IsWritten words new_words bit false → AreTied new_places new_cells new_words
  tied_without has less less_cells written =
      tied_less places new_places cells new_cells words new_words place number
      (subst (λ (c : NumberCell). c.set < 4) is set) (subst (λ (c : NumberCell). c.number < 65536) is most)
      tied has less (less_cells ∙ ap (remove (rows cell_cmp cells)) is) (written_at false written)

-- tables with the same rows
pub tied_same : (places new_places : Stored Place ℕ) (cells : Stored NumberCell ℕ) (words : List ℕ)
    → rows place_cmp new_places ≡ rows place_cmp places
    → AreTied places cells words → AreTied new_places cells words
tied_same places new_places cells words same tied = record {
  same = tied.same ∙ ap cells_of (sym same);
  apart = subst IsApart (sym same) tied.apart;
  small = λ p k has. tied.small p k (sym (ap (λ (m : Numbering). get m p) same) ∙ has);
  whole = tied.whole;
  bits = tied.bits;
}

-- to take back what isn't there changes nothing
pub remove_none : (n : Numbering) (p : Place) → get n p ≡ None → remove n p ≡ n
remove_none n p none = same_map places_total places_exact (remove n p) n
    (λ q. get-remove places_total n p q ∙ kept q (eq_by_cmp place_cmp q p) refl)
  where
    kept : (q : Place) (b : Bool) → eq_by_cmp place_cmp q p ≡ b → cond b None (get n q) ≡ get n q
    kept q true tied = sym none ∙ get_tied places_total n q p ((Equal-is _).0 tied)
    kept q false other = refl
