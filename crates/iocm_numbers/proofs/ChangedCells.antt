-- The number cells that a change of the configuration changed are those of the rows that it freed
-- and gave.
use Rattle.std.proofs.Common.{◌≡◌, ℕ, Bool, true, false, cond, not, ◌||◌, nat_eq, eq-eqb, eqb-true, List, [], ◌∷◌, ◌++◌}
use Rattle.std.proofs.Common.{map, Option, Some, None, is_some, T, refl, sym, ap, ◌∙◌}
use Rattle.std.proofs.lemmas.List.{append-nil}
use Rattle.std.specs.List.{filter, list_any, AllByRecursion}
use Rattle.std.specs.List.Sorted.{IsStrictlySortedBy}
use Rattle.std.specs.Map.{keys_of}
use Rattle.std.specs.Option.{option_eq}
use Rattle.std.specs.Ordering.{is_lt, eq_by_cmp}
use Rattle.std.specs.declared.cmp.Ordering.{Ordering}
use Rattle.std.specs.FinMap.{find, get, contains_key, entries, entries_sorted, is_sorted, from_entries, get-entries}
use Rattle.std.specs.FinMap.{get-from_entries}
use Rattle.std.specs.FinMap.Entries.{below_all, is_sorted-where_key, same_entries}
use Rattle.iocm_types.specs.declared.place.Place.{Place}
use Rattle.iocm_types.specs.declared.place.NumberCell.{NumberCell}
use Rattle.iocm_types.specs.Place.{place_cmp, cell_cmp}
use Rattle.iocm_types.specs.KeyOrder.{places_total, places_exact, cells_total, cells_exact}
use Rattle.iocm_types.proofs.Found.{same_key, ties_itself, found_first, found_later, found_fails, passing}
use Rattle.iocm_types.proofs.InOrder.{rows_sorted}
use Rattle.iocm_types.proofs.Tests.{first_holds, second_holds, both_hold}
use Rattle.iocm_model.specs.Machine.Numbering.{Numbering, cells_of, device_at}
use Rattle.iocm_model.specs.Change.Inverse.{freed_numbers}
use Rattle.iocm_model.specs.Change.Maps.{cells_at, differing}
use Rattle.iocm_model.proofs.Maps.Cells.{get_cells_at, in_differing}
use Rattle.iocm_model.proofs.Numbers.Back as back
use Rattle.iocm_model.proofs.Numbers.Cells.{IsApart, place, has_number, has_device}
use Rattle.iocm_numbers.specs.declared.number_change.NumberChange.{NumberChange}
use Rattle.iocm_numbers.specs.Exchange.{Agree}
use Rattle.iocm_numbers.specs.Numbered.{cell_at}
use Rattle.iocm_numbers.specs.NumberChanges.{given_cell, noted_cells, number_change, change_from, changes_between}
use Rattle.iocm_numbers.specs.NumberChanges.{WereBefore}

-- ---- cells that are noted

-- whether a row has a cell
abbrev has_cell : NumberCell → Place × ℕ → Bool
has_cell c row = eq_by_cmp cell_cmp c (cell_at row.0 row.1)

module _ (value : Place × ℕ → Option ℕ) (expected : NumberCell → Option ℕ) where
  -- the cells of rows, each with its value
  abbrev with_values : List (Place × ℕ) → List (NumberCell × Option ℕ)
  with_values rows = map (λ (row : Place × ℕ). (cell_at row.0 row.1, value row)) rows

  -- where the value of each row is the one expected of its cell, a cell of a row is found with it,
  -- and another cell as it is found in the rest
  find_noted : (rows : List (Place × ℕ)) → AllByRecursion (λ row. value row ≡ expected (cell_at row.0 row.1)) rows
      → (rest : List (NumberCell × Option ℕ)) (c : NumberCell)
      → find cell_cmp c (with_values rows ++ rest)
      ≡ cond (list_any (has_cell c) rows) (Some (expected c)) (find cell_cmp c rest)
  find_noted [] all rest c = refl
  find_noted (row ∷ rows) all rest c = by (has_cell c row) refl (find_noted rows all.1 rest c)
    where
      by : (b : Bool) → has_cell c row ≡ b
          → find cell_cmp c (with_values rows ++ rest)
          ≡ cond (list_any (has_cell c) rows) (Some (expected c)) (find cell_cmp c rest)
          → cond (has_cell c row) (Some (value row)) (find cell_cmp c (with_values rows ++ rest))
          ≡ cond (has_cell c row || list_any (has_cell c) rows) (Some (expected c)) (find cell_cmp c rest)
      by true e more = ap (λ b. cond b (Some (value row)) (find cell_cmp c (with_values rows ++ rest))) e
          ∙ ap Some (all.0 ∙ ap expected (sym (same_key cell_cmp cells_exact c (cell_at row.0 row.1) e)))
          ∙ sym (ap (λ b. cond (b || list_any (has_cell c) rows) (Some (expected c)) (find cell_cmp c rest)) e)
      by false e more = ap (λ b. cond b (Some (value row)) (find cell_cmp c (with_values rows ++ rest))) e ∙ more
          ∙ sym (ap (λ b. cond (b || list_any (has_cell c) rows) (Some (expected c)) (find cell_cmp c rest)) e)

-- ---- rows of one of two numberings alone

-- what holds of all that is found in rows in order holds of those that pass a test
all_kept : (P : Place × ℕ → Type 0) (test : Place × ℕ → Bool) (es : List (Place × ℕ)) → T (is_sorted place_cmp es)
    → ((q : Place) (k : ℕ) → find place_cmp q es ≡ Some k → P (q, k)) → AllByRecursion P (filter test es)
all_kept P test [] up each = tt
all_kept P test (e ∷ es) up each =
    by (test e) (all_kept P test es (second_holds _ _ up)
    (λ q k is. each q k (found_later place_cmp places_total places_exact q e es k (first_holds _ _ up) is)))
  where
    by : (b : Bool) → AllByRecursion P (filter test es)
        → AllByRecursion P (cond b (e ∷ filter test es) (filter test es))
    by true more = (each e.0 e.1 (found_first place_cmp places_total places_exact e es), more)
    by false more = more

module _ (n m : Numbering) (agree : Agree n m) (apart : IsApart n) (other : IsApart m) where
  -- the rows of the first alone
  abbrev alone : List (Place × ℕ)
  alone = freed_numbers n m

  alone_sorted : T (is_sorted place_cmp alone)
  alone_sorted = is_sorted-where_key place_cmp (λ p. not (contains_key m p)) (entries n) (entries_sorted n)

  -- their cells have their devices
  pub devices_of_rows : AllByRecursion (λ (row : Place × ℕ). Some row.0.device ≡ device_at n (cell_at row.0 row.1))
      alone
  devices_of_rows = all_kept (λ (row : Place × ℕ). Some row.0.device ≡ device_at n (cell_at row.0 row.1))
      (λ (e : Place × ℕ). not (contains_key m e.0)) (entries n) (entries_sorted n)
      (λ q k is. sym (has_device n apart q k (get-entries n q ∙ is)))

  -- a cell of none of these rows has its device in the other too
  stays_by : (c : NumberCell) (d : ℕ) (o : Option ℕ) → get m (place c d) ≡ o → list_any (has_cell c) alone ≡ false
      → device_at n c ≡ Some d → device_at m c ≡ Some d
  stays_by c d None gone none is =
      let there : find place_cmp (place c d) alone ≡ Some c.number =
      back.get_freed n m (place c d) ∙ ap (λ o. cond (not (is_some o)) (get n (place c d)) None) gone
      ∙ has_number n c d is in
      let no : has_cell c (place c d, c.number) ≡ false =
      found_fails place_cmp places_total places_exact (has_cell c) alone (place c d) c.number none there in
      let yes : has_cell c (place c d, c.number) ≡ true = ties_itself cell_cmp cells_total c in cc
  stays_by c d (Some j) has none is =
      let same : c.number ≡ j = agree (place c d) c.number j (has_number n c d is) has in
      has_device m other (place c d) c.number (has ∙ ap Some (sym same))

  pub stays : (c : NumberCell) → list_any (has_cell c) alone ≡ false → (d : ℕ) → device_at n c ≡ Some d
      → device_at m c ≡ Some d
  stays c none d is = stays_by c d (get m (place c d)) refl none is

  -- and a cell of one of them hasn't, by what the other has there
  turns_by : (q : Place) (k : ℕ) (o : Option ℕ) → device_at m (cell_at q k) ≡ o → get m q ≡ None
      → option_eq nat_eq (Some q.device) o ≡ false
  turns_by q k None at gone = refl
  turns_by q k (Some d) at gone = by (nat_eq q.device d) refl
    where
      by : (b : Bool) → nat_eq q.device d ≡ b → b ≡ false
      by false e = refl
      by true e =
          let has : get m (place (cell_at q k) d) ≡ Some k = has_number m (cell_at q k) d at in
          let no : None ≡ Some k = sym gone ∙ ap (λ x. get m (place (cell_at q k) x)) (eqb-true q.device d e) ∙ has in
          cc

  -- what a row's place has in each
  row_by : (x y : Option ℕ) (k : ℕ) → cond (not (is_some y)) x None ≡ Some k → (x ≡ Some k) × (y ≡ None)
  row_by x None k is = (is, refl)
  row_by x (Some j) k is = cc

  pub turns : (c : NumberCell) → list_any (has_cell c) alone ≡ true
      → option_eq nat_eq (device_at n c) (device_at m c) ≡ false
  turns c among =
      let row = passing place_cmp places_total places_exact (has_cell c) alone alone_sorted among in
      let cell : c ≡ cell_at row.key row.value =
      same_key cell_cmp cells_exact c (cell_at row.key row.value) row.passes in
      let is = row_by (get n row.key) (get m row.key) row.value (sym (back.get_freed n m row.key) ∙ row.found) in
      ap (λ (x : NumberCell). option_eq nat_eq (device_at n x) (device_at m x)) cell
      ∙ ap (λ o. option_eq nat_eq o (device_at m (cell_at row.key row.value)))
      (has_device n apart row.key row.value is.0)
      ∙ turns_by row.key row.value (device_at m (cell_at row.key row.value)) refl is.1

-- ---- both ways

same_itself : (x : ℕ) → nat_eq x x ≡ true
same_itself x = eq-eqb x x refl

-- a cell of rows that were freed, of rows that were given or of neither, by what it has before and
-- after
changed_by : (freed given : Bool) (x y : Option ℕ) → (freed ≡ true → option_eq nat_eq x y ≡ false)
    → (given ≡ true → option_eq nat_eq y x ≡ false)
    → (freed ≡ false → (d : ℕ) → x ≡ Some d → y ≡ Some d) → (given ≡ false → (d : ℕ) → y ≡ Some d → x ≡ Some d)
    → cond freed (Some x) (cond given (Some None) None) ≡ cond (not (option_eq nat_eq x y)) (Some x) None
changed_by true given x y gone come stays comes = ap (λ b. cond (not b) (Some x) None) (sym (gone refl))
changed_by false true None None gone come stays comes = let no : true ≡ false = come refl in cc
changed_by false true None (Some e) gone come stays comes = refl
changed_by false true (Some d) y gone come stays comes =
    let no : true ≡ false = sym (same_itself d) ∙ ap (λ o. option_eq nat_eq o (Some d)) (sym (stays refl d refl))
    ∙ come refl in cc
changed_by false false None None gone come stays comes = refl
changed_by false false None (Some e) gone come stays comes = let no : None ≡ Some e = comes refl e refl in cc
changed_by false false (Some d) y gone come stays comes =
    sym (ap (λ o. cond (not (option_eq nat_eq (Some d) o)) (Some (Some d)) None) (stays refl d refl)
    ∙ ap (λ b. cond (not b) (Some (Some d)) None) (same_itself d))

module _ (n m : Numbering) (agree : Agree n m) (agree_back : Agree m n) (apart : IsApart n) (other : IsApart m) where
  -- the cells that differ
  abbrev differ : List NumberCell
  differ = differing nat_eq (cells_of n) (cells_of m)

  none_expected : AllByRecursion (λ (row : Place × ℕ). ◌≡◌ {A = Option ℕ} None None) (freed_numbers m n)
  none_expected = all_kept (λ (row : Place × ℕ). ◌≡◌ {A = Option ℕ} None None)
      (λ (e : Place × ℕ). not (contains_key n e.0)) (entries m) (entries_sorted m) (λ q k is. refl)

  -- what is found of a cell among those that are noted
  find_all : (c : NumberCell) → find cell_cmp c (noted_cells (freed_numbers n m) (freed_numbers m n))
      ≡ cond (list_any (has_cell c) (freed_numbers n m)) (Some (device_at n c))
      (cond (list_any (has_cell c) (freed_numbers m n)) (Some None) None)
  find_all c = find_noted (λ row. Some row.0.device) (device_at n) (freed_numbers n m)
      (devices_of_rows n m agree apart other) (map given_cell (freed_numbers m n)) c
      ∙ ap (cond (list_any (has_cell c) (freed_numbers n m)) (Some (device_at n c)))
      (ap (find cell_cmp c) (sym (append-nil (map given_cell (freed_numbers m n))))
      ∙ find_noted (λ row. None) (λ x. None) (freed_numbers m n) none_expected [] c)

  -- it is what is found of it among the cells that differ, each with the device that had it
  pub noted_at : (c : NumberCell)
      → find cell_cmp c (noted_cells (freed_numbers n m) (freed_numbers m n)) ≡ get (cells_at (cells_of n) differ) c
  noted_at c = find_all c
      ∙ changed_by (list_any (has_cell c) (freed_numbers n m)) (list_any (has_cell c) (freed_numbers m n))
      (device_at n c) (device_at m c)
      (turns n m agree apart other c) (turns m n agree_back other apart c) (stays n m agree apart other c)
      (stays m n agree_back other apart c)
      ∙ sym (get_cells_at cells_total cells_exact (cells_of n) differ c
      ∙ ap (λ b. cond b (Some (device_at n c)) None)
      (in_differing cells_total cells_exact nat_eq (cells_of n) (cells_of m) c))

-- ---- in order

module _ {K X Y : Type 0} (R : K → K → Ordering) (test : K → Bool) (value : K → Y) where
  -- of the keys of some entries those that pass, each with a value
  abbrev kept : List (K × X) → List (K × Y)
  kept es = map (λ k. (k, value k)) (filter test (map (λ e. e.0) es))

  below_kept : (x : K) (es : List (K × X)) → T (below_all R x es) → T (below_all R x (kept es))
  below_kept x [] low = tt
  below_kept x (e ∷ es) low = by (test e.0) (below_kept x es (second_holds (is_lt (R x e.0)) (below_all R x es) low))
    where
      by : (b : Bool) → T (below_all R x (kept es))
          → T (below_all R x (map (λ k. (k, value k))
          (cond b (e.0 ∷ filter test (map (λ e. e.0) es)) (filter test (map (λ e. e.0) es)))))
      by true more = both_hold _ _ (first_holds (is_lt (R x e.0)) (below_all R x es) low) more
      by false more = more

  -- keys that stand in order do so where some are left out
  pub kept_sorted : (es : List (K × X)) → T (is_sorted R es) → T (is_sorted R (kept es))
  kept_sorted [] up = tt
  kept_sorted (e ∷ es) up = by (test e.0) (kept_sorted es (second_holds (below_all R e.0 es) (is_sorted R es) up))
    where
      by : (b : Bool) → T (is_sorted R (kept es))
          → T (is_sorted R (map (λ k. (k, value k))
          (cond b (e.0 ∷ filter test (map (λ e. e.0) es)) (filter test (map (λ e. e.0) es)))))
      by true more = both_hold _ _ (below_kept e.0 es (first_holds (below_all R e.0 es) (is_sorted R es) up)) more
      by false more = more

-- what each of these has
changes_each : (n m : Numbering) (cs : List NumberCell)
    → map (change_from m) (map (λ c. (c, device_at n c)) cs) ≡ map (number_change n m) cs
changes_each n m [] = refl
changes_each n m (c ∷ cs) = ap (λ xs. number_change n m c ∷ xs) (changes_each n m cs)

-- the changes of the cells that are noted, in order and each once, are all
pub changes_are : (n m : Numbering) (freed given : List (Place × ℕ)) (holders : List (NumberCell × Option ℕ))
    (changes : List NumberChange) → IsApart m → WereBefore n m freed given
    → ((c : NumberCell) → find cell_cmp c holders ≡ find cell_cmp c (noted_cells freed given))
    → IsStrictlySortedBy cell_cmp (keys_of holders)
    → changes ≡ map (change_from m) holders → changes ≡ changes_between n m
changes_are n m freed given holders changes other was first order all =
    let agree_back : Agree m n = λ p j k is had. sym (was.agree p k j had is) in
    let differ : List NumberCell = differing nat_eq (cells_of n) (cells_of m) in
    let rows : List (NumberCell × Option ℕ) = map (λ c. (c, device_at n c)) differ in
    let up : T (is_sorted cell_cmp rows) =
    kept_sorted cell_cmp (λ c. not (option_eq nat_eq (device_at n c) (device_at m c))) (device_at n)
    (entries (from_entries {R = cell_cmp} (entries (cells_of n) ++ entries (cells_of m))))
    (entries_sorted (from_entries {R = cell_cmp} (entries (cells_of n) ++ entries (cells_of m)))) in
    let same : holders ≡ rows =
    same_entries cell_cmp cells_total cells_exact holders rows (rows_sorted cell_cmp holders order) up (λ c.
    first c ∙ (λ i. find cell_cmp c (noted_cells (was.gone i) (was.come i)))
    ∙ noted_at n m was.agree agree_back was.apart other c ∙ get-from_entries cells_total rows c) in
    all ∙ ap (map (change_from m)) same ∙ changes_each n m differ
