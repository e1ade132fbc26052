-- Which carried numbers are taken: held by a device that stays, or carried twice.
use Rattle.std.proofs.Common.{◌≡◌, ℕ, ◌+◌, ◌<◌, Bool, true, false, cond, ◌||◌, ◌&&◌, nat_eq, List, [], ◌∷◌, length}
use Rattle.std.proofs.Common.{get_or, drop, Option, Some, None, is_some, refl, sym, ap, ◌∙◌}
use Rattle.std.proofs.lemmas.Bool.{and_parts, eqb-true, true_from_ne_false, false_from_ne_true}
use Rattle.std.specs.List.{filter, list_any}
use Rattle.std.specs.Ordering.{eq_by_cmp}
use Rattle.std.specs.FinMap.{get, insert, empty, entries, entries_sorted, get-empty, get-insert, get-entries}
use Rattle.iocm_types.specs.declared.place.Place.{Place}
use Rattle.iocm_types.specs.Place.{place_cmp, cell_cmp}
use Rattle.iocm_types.specs.KeyOrder.{places_total, places_exact, cells_total, cells_exact}
use Rattle.iocm_types.proofs.Found.{same_key, ties_itself, none_passes, found_fails}
use Rattle.iocm_types.proofs.Lists.{drop-item}
use Rattle.iocm_model.specs.Machine.Configuration.{Configuration}
use Rattle.iocm_model.specs.Machine.Numbering.{Numbering, is_reached_at, device_at}
use Rattle.iocm_model.specs.Change.Renumbering.{comes_in, without_leavers}
use Rattle.iocm_model.specs.Change.Refusal.{same_cell, has_cell_twice}
use Rattle.iocm_model.proofs.Numbers.Apart.{had, one_cell}
use Rattle.iocm_model.proofs.Numbers.Cells.{IsApart, place, has_number}
use Rattle.iocm_model.proofs.Numbers.Changed.{stays}
use Rattle.iocm_numbers.specs.Numbered.{cell_at}
use Rattle.iocm_numbers.specs.Taken.{Cells, is_noted, with_noted, is_one_again}
use Rattle.iocm_numbers.proofs.OneCarried.{no_row}

-- ---- one number

-- numbers that are one cell have one cell
same_cells : (a b : Place × ℕ) → same_cell a b ≡ true → cell_at a.0 a.1 ≡ cell_at b.0 b.1
same_cells a b same =
    let parts = and_parts _ _ same in
    let first = and_parts (nat_eq a.0.css b.0.css) (nat_eq a.0.set b.0.set) parts.0 in
    λ i. record {
      css = eqb-true a.0.css b.0.css first.0 i;
      set = eqb-true a.0.set b.0.set first.1 i;
      number = eqb-true a.1 b.1 parts.1 i;
    }

module _ (c : Configuration) (n : Numbering) (row : Place × ℕ) where
  -- whether a device that stays holds the number
  abbrev is_held : Bool
  is_held = list_any (same_cell row) (entries (without_leavers c n))

  -- the place of a device at the cell
  abbrev holder : ℕ → Place
  holder d = place (cell_at row.0 row.1) d

  -- a device that is reached holds it
  stays_there : (d : ℕ) → device_at n (cell_at row.0 row.1) ≡ Some d → is_reached_at c (holder d) ≡ true
      → is_held ≡ true
  stays_there d at in_reach = true_from_ne_false is_held (λ none.
      let has : get (without_leavers c n) (holder d) ≡ Some row.1 =
      stays c n (holder d) in_reach ∙ has_number n (cell_at row.0 row.1) d at in
      let no : same_cell row (holder d, row.1) ≡ false =
      found_fails place_cmp places_total places_exact (same_cell row) (entries (without_leavers c n)) (holder d) row.1
      none (sym (get-entries (without_leavers c n) (holder d)) ∙ has) in
      let yes : same_cell row (holder d, row.1) ≡ true = one_cell row (holder d, row.1) refl refl refl in cc)

  -- one that isn't reached doesn't, nor does another
  leaves_there : IsApart n → (d : ℕ) → device_at n (cell_at row.0 row.1) ≡ Some d → is_reached_at c (holder d) ≡ false
      → is_held ≡ false
  leaves_there apart d at out = none_passes place_cmp places_total places_exact (same_cell row)
      (entries (without_leavers c n)) (entries_sorted (without_leavers c n))
      (λ q k is. false_from_ne_true (same_cell row (q, k)) (λ same.
      let was = had c n q k (get-entries (without_leavers c n) q ∙ is) in
      let parts = and_parts _ _ same in
      let first = and_parts (nat_eq row.0.css q.css) (nat_eq row.0.set q.set) parts.0 in
      let one : holder d ≡ q =
      apart (holder d) q k (eqb-true row.0.css q.css first.0) (eqb-true row.0.set q.set first.1)
      (has_number n (cell_at row.0 row.1) d at ∙ ap Some (eqb-true row.1 k parts.1)) was.1 in
      let no : true ≡ false = sym was.0 ∙ ap (is_reached_at c) (sym one) ∙ out in cc))

  pub held_is : IsApart n → (d : ℕ) → device_at n (cell_at row.0 row.1) ≡ Some d → is_reached_at c (holder d) ≡ is_held
  held_is apart d at = by (is_reached_at c (holder d)) refl
    where
      by : (b : Bool) → is_reached_at c (holder d) ≡ b → is_reached_at c (holder d) ≡ is_held
      by true is = is ∙ sym (stays_there d at is)
      by false is = is ∙ sym (leaves_there apart d at is)

  pub held_not : device_at n (cell_at row.0 row.1) ≡ None → false ≡ is_held
  held_not free = sym (no_row c n row.0 row.1 free)

-- ---- numbers that stay

module _ (comes held : Place × ℕ → Bool) where
  -- what is left to look at says what all say
  pub record IsLooking (xs : List (Place × ℕ)) (i : ℕ) : Type 0 where
    pub left : list_any held (filter comes (drop i xs)) ≡ list_any held (filter comes xs)

  any_by : (a b : Bool) (x : Place × ℕ) (xs : List (Place × ℕ)) → held x ≡ b
      → list_any held (cond a (x ∷ filter comes xs) (filter comes xs)) ≡ ((a && b) || list_any held (filter comes xs))
  any_by true b x xs is = ap (λ t. t || list_any held (filter comes xs)) is
  any_by false b x xs is = refl

  any_at : (xs : List (Place × ℕ)) (i : ℕ) (x : Place × ℕ) → i < length xs → x ≡ get_or xs i x → IsLooking xs i
      → ((comes x && held x) || list_any held (filter comes (drop (i + 1) xs))) ≡ list_any held (filter comes xs)
  any_at xs i x within item before =
      sym (any_by (comes x) (held x) x (drop (i + 1) xs) refl)
      ∙ ap (λ ys. list_any held (filter comes ys)) (sym (drop-item xs i x within item)) ∙ before.left

-- ---- numbers that are carried twice

-- a row with one cell more noted
noted_by : (seen : Cells) (x r : Place × ℕ) (b : Bool) → eq_by_cmp cell_cmp (cell_at r.0 r.1) (cell_at x.0 x.1) ≡ b
    → same_cell x r ≡ b
noted_by seen x r true is = true_from_ne_false (same_cell x r) (λ no.
    let cells : cell_at r.0 r.1 ≡ cell_at x.0 x.1 =
    same_key cell_cmp cells_exact (cell_at r.0 r.1) (cell_at x.0 x.1) is in
    let yes : same_cell x r ≡ true =
    one_cell x r (sym (ap (λ q. q.css) cells)) (sym (ap (λ q. q.set) cells)) (sym (ap (λ q. q.number) cells)) in cc)
noted_by seen x r false is = false_from_ne_true (same_cell x r) (λ yes.
    let tie : eq_by_cmp cell_cmp (cell_at r.0 r.1) (cell_at x.0 x.1) ≡ true =
    ap (eq_by_cmp cell_cmp (cell_at r.0 r.1)) (same_cells x r yes)
    ∙ ties_itself cell_cmp cells_total (cell_at r.0 r.1) in cc)

is_some_by : (b : Bool) (o : Option (Unit {0})) → is_some (cond b (Some tt) o) ≡ (b || is_some o)
is_some_by true o = refl
is_some_by false o = refl

noted_more : (seen : Cells) (x r : Place × ℕ)
    → is_noted (insert seen (cell_at x.0 x.1) tt) r ≡ (same_cell x r || is_noted seen r)
noted_more seen x r =
    ap is_some (get-insert cells_total seen (cell_at x.0 x.1) tt (cell_at r.0 r.1))
    ∙ is_some_by (eq_by_cmp cell_cmp (cell_at r.0 r.1) (cell_at x.0 x.1)) (get seen (cell_at r.0 r.1))
    ∙ ap (λ b. b || is_noted seen r) (sym (noted_by seen x r _ refl))

either : (a b r s : Bool) → ((a || b) || (r || s)) ≡ ((a || r) || (b || s))
either true b r s = refl
either false true true s = refl
either false true false s = refl
either false false r s = refl

any_more : (seen : Cells) (x : Place × ℕ) (rows : List (Place × ℕ))
    → list_any (is_noted (insert seen (cell_at x.0 x.1) tt)) rows
    ≡ (list_any (same_cell x) rows || list_any (is_noted seen) rows)
any_more seen x [] = refl
any_more seen x (r ∷ rows) =
    (λ i. noted_more seen x r i || any_more seen x rows i)
    ∙ either (same_cell x r) (is_noted seen r) (list_any (same_cell x) rows) (list_any (is_noted seen) rows)

turned : (a b d : Bool) → ((a || b) || d) ≡ (b || (a || d))
turned true true d = refl
turned true false d = refl
turned false b d = refl

-- with one more noted the rest says the same
again_more : (seen : Cells) (x : Place × ℕ) (rows : List (Place × ℕ)) → is_noted seen x ≡ false
    → is_one_again (insert seen (cell_at x.0 x.1) tt) rows ≡ is_one_again seen (x ∷ rows)
again_more seen x rows new = ap (λ b. b || has_cell_twice rows) (any_more seen x rows)
    ∙ turned (list_any (same_cell x) rows) (list_any (is_noted seen) rows) (has_cell_twice rows)
    ∙ ap (λ b. (b || list_any (is_noted seen) rows) || (list_any (same_cell x) rows || has_cell_twice rows)) (sym new)

none_noted : (rows : List (Place × ℕ)) → list_any (is_noted empty) rows ≡ false
none_noted [] = refl
none_noted (r ∷ rows) = (λ i. is_some (get-empty {X = Unit {0}} cell_cmp (cell_at r.0 r.1) i) || none_noted rows i)

module _ (c : Configuration) (n : Numbering) (xs : List (Place × ℕ)) where
  -- those that come in, of some rows
  abbrev arriving : List (Place × ℕ) → List (Place × ℕ)
  arriving rows = filter (comes_in c n) rows

  -- what is left says with what was noted what all say
  pub record IsNoting (i : ℕ) (seen : Cells) : Type 0 where
    pub left : is_one_again seen (arriving (drop i xs)) ≡ has_cell_twice (arriving xs)

  pub notes_none : (seen : Cells) → seen ≡ empty → IsNoting 0 seen
  notes_none seen new = record {
    left = ap (λ m. is_one_again m (arriving xs)) new
        ∙ ap (λ b. b || has_cell_twice (arriving xs)) (none_noted (arriving xs));
  }

  at_item : (i : ℕ) (seen : Cells) (x : Place × ℕ) → i < length xs → x ≡ get_or xs i x → IsNoting i seen
      → is_one_again seen (arriving (x ∷ drop (i + 1) xs)) ≡ has_cell_twice (arriving xs)
  at_item i seen x within item before =
      ap (λ ys. is_one_again seen (arriving ys)) (sym (drop-item xs i x within item)) ∙ before.left

  note_by : (seen : Cells) (x : Place × ℕ) (rest : List (Place × ℕ)) (b : Bool) → (b && is_noted seen x) ≡ false
      → is_one_again (cond b (insert seen (cell_at x.0 x.1) tt) seen) rest ≡ is_one_again seen (cond b (x ∷ rest) rest)
  note_by seen x rest true new = again_more seen x rest new
  note_by seen x rest false new = refl

  pub notes_one : (i : ℕ) (seen next : Cells) (x : Place × ℕ) → i < length xs → x ≡ get_or xs i x → IsNoting i seen
      → next ≡ with_noted c n seen x
      → (comes_in c n x && is_noted seen x) ≡ false → IsNoting (i + 1) next
  notes_one i seen next x within item before is new = record {
    left = ap (λ m. is_one_again m (arriving (drop (i + 1) xs))) is
        ∙ note_by seen x (arriving (drop (i + 1) xs)) (comes_in c n x) new
        ∙ at_item i seen x within item before;
  }

  again_by : (seen : Cells) (x : Place × ℕ) (rest : List (Place × ℕ)) (b : Bool) → (b && is_noted seen x) ≡ true
      → is_one_again seen (cond b (x ∷ rest) rest) ≡ true
  again_by seen x rest true is =
      ap (λ b. (b || list_any (is_noted seen) rest) || (list_any (same_cell x) rest || has_cell_twice rest)) is
  again_by seen x rest false is = cc

  pub notes_again : (i : ℕ) (seen : Cells) (x : Place × ℕ) → i < length xs → x ≡ get_or xs i x → IsNoting i seen
      → (comes_in c n x && is_noted seen x) ≡ true → true ≡ has_cell_twice (arriving xs)
  notes_again i seen x within item before is =
      sym (again_by seen x (arriving (drop (i + 1) xs)) (comes_in c n x) is) ∙ at_item i seen x within item before
