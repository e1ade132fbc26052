-- The rows of a change: what is seen first where edits altered something is what was seen before all of
-- them; how many rows there are, in which order, and what they lead to.
use Rattle.std.proofs.Common.{◌≡◌, Bool, true, false, cond, ◌||◌, List, [], ◌∷◌, ◌++◌, map, Option, Some, None, is_some}
use Rattle.std.proofs.Common.{T, append-nil, refl, sym, ap, subst, ◌∙◌, length}
use Rattle.std.specs.List.{flat_map, list_any}
use Rattle.std.specs.Map.{keys_of}
use Rattle.std.specs.Option.{option_or}
use Rattle.std.specs.Ordering.{eq_by_cmp}
use Rattle.std.specs.declared.cmp.Ordering.{Ordering}
use Rattle.std.specs.Cmp.{IsTotalOrder}
use Rattle.std.specs.FinMap.{FinMap, IsAntisymmetric, find, is_sorted, get, entries, entries_sorted, keys, get-entries}
use Rattle.std.specs.FinMap.{get-from_entries, contains_key-keys, len, len-entries}
use Rattle.std.specs.FinMap.Entries.{same_entries}
use Rattle.std.specs.List.Sorted.{IsStrictlySortedBy}
use Rattle.std.proofs.lemmas.Bool.{not-false}
use Rattle.std.proofs.lemmas.List.{map-id, length-map}
use Rattle.std.proofs.lemmas.List.Folds.{list_any-append}
use Rattle.std.proofs.lemmas.Option.{cond_some}
use Rattle.std.proofs.lemmas.Simd.{map-map}
use Rattle.iocm_types.specs.declared.sub_id.SubId.{SubId}
use Rattle.iocm_types.specs.declared.view.View.{View}
use Rattle.iocm_types.specs.SubId.{sub_id_cmp}
use Rattle.iocm_types.specs.KeyOrder.{sub_ids_total, sub_ids_exact}
use Rattle.iocm_types.proofs.Found.{found_first, found_later}
use Rattle.iocm_types.proofs.Parts.{find_append}
use Rattle.iocm_types.proofs.Tests.{first_holds, second_holds}
use Rattle.iocm_model.specs.Change.Edit.{Edit, same_view, state_after, altered_between}
use Rattle.iocm_model.specs.Change.Maps.{cells_at, differing, with_cells}
use Rattle.iocm_model.specs.Change.Runs.{cells_written_by_all, state_after_all, effect_of}
use Rattle.iocm_model.specs.Operation.State.{State, Views, views_in, seen_in, is_among}
use Rattle.iocm_model.proofs.Change.SameViews.{sight_is}
use Rattle.iocm_model.proofs.Maps.Cells.{get_cells_at, in_differing}
use Rattle.iocm_seats.specs.Changes.{view_change, changes_between}
use Rattle.iocm_types.proofs.InOrder.{keys_rise, rows_sorted}
use Rattle.iocm_seats.proofs.Ordered.{differing_rise, same_members}
use Rattle.iocm_seats.specs.declared.view_change.ViewChange.{ViewChange}
use Rattle.iocm_plant.specs.declared.touched.Touched.{Touched}
use Rattle.iocm_activate.specs.Done.{AreToldBy}
use Rattle.iocm_activate.specs.Told.{Told, told_of_all}
use Rattle.iocm_reports.specs.Altered.{altered_rows, subchannels_altered, AreInOrder}
use Rattle.iocm_reports.specs.Gathered.{seen_before, seen_before_edits, row_of, SeenRow}
use Rattle.iocm_model.proofs.Maps.Overwriting.{not_in_first, not_in_second, with_cells_is}
use Rattle.iocm_reports.specs.Laws.{RowsAreCounted, RowsLeadBack, RowsLeadToTheTable, RowsStandInOrder}

is_there : {A : Type 0} (b : Bool) (x : A) → is_some (cond b (Some x) None) ≡ b
is_there true x = refl
is_there false x = refl

-- ---- cells of a map: their keys, each with what the map has there

module _ {K : Type 0} {R : K → K → Ordering} (total : IsTotalOrder R) (exact : IsAntisymmetric R) where
  rows_by : {X : Type 0} (f : K → X) (es : List (K × X)) → T (is_sorted R es)
      → ((q : K) (v : X) → find R q es ≡ Some v → v ≡ f q) → es ≡ map (λ k. (k, f k)) (keys_of es)
  rows_by f [] up is = refl
  rows_by f (e ∷ es) up is =
      let here : f e.0 ≡ e.1 = sym (is e.0 e.1 (found_first R total exact e es)) in
      let rest = rows_by f es (second_holds _ _ up)
      (λ q v h. is q v (found_later R total exact q e es v (first_holds _ _ up) h)) in
      (λ i. (e.0, sym here i) ∷ rest i)

  pub cells_rows : {X : Type 0} (m : FinMap R X) (ks : List K)
      → entries (cells_at m ks) ≡ map (λ k. (k, get m k)) (keys (cells_at m ks))
  cells_rows m ks = rows_by (get m) (entries (cells_at m ks)) (entries_sorted (cells_at m ks))
      (λ q v h. sym (cond_some (list_any (eq_by_cmp R q) ks) (get m q) v
      (sym (get_cells_at total exact m ks q) ∙ (get-entries (cells_at m ks) q ∙ h))).1)

  member : {X : Type 0} (m : FinMap R X) (ks : List K) (q : K)
      → list_any (eq_by_cmp R q) (keys (cells_at m ks)) ≡ list_any (eq_by_cmp R q) ks
  member m ks q = sym (contains_key-keys (cells_at m ks) q) ∙ ap is_some (get_cells_at total exact m ks q)
      ∙ is_there (list_any (eq_by_cmp R q) ks) (get m q)

  -- the cells of two maps at the same keys have the same keys
  pub same_keys : {X Y : Type 0} (m : FinMap R X) (n : FinMap R Y) (ks : List K)
      → keys (cells_at m ks) ≡ keys (cells_at n ks)
  same_keys m n ks = same_members R total exact (keys (cells_at m ks)) (keys (cells_at n ks))
      (keys_rise R (entries (cells_at m ks)) (entries_sorted (cells_at m ks)))
      (keys_rise R (entries (cells_at n ks)) (entries_sorted (cells_at n ks)))
      (λ q. member m ks q ∙ sym (member n ks q))

-- ---- what was told of edits

-- what was seen first, by what was told
abbrev told_first : List Told → List (SubId × Option View)
told_first told = flat_map (λ (t : Told). seen_before t.subchannels) told

told_is : (performed : List Touched) (told : List Told) → AreToldBy performed told
    → seen_before_edits performed ≡ told_first told
told_is [] [] h = refl
told_is (d ∷ ds) (t ∷ ts) h = (λ i. seen_before (h.0.1 i) ++ told_is ds ts h.1 i)
told_is [] (t ∷ ts) h = absurd h
told_is (d ∷ ds) [] h = absurd h

before_is : (v w : SubId → Option View) (xs : List SubId)
    → seen_before (map (view_change v w) xs) ≡ map (λ x. (x, v x)) xs
before_is v w xs = map-map (λ (c : ViewChange). (c.subchannel, c.before)) (view_change v w) xs

-- at a subchannel that an edit altered, what was seen before it is found
found_before : (v w : Views) (x : SubId) → find sub_id_cmp x (seen_before (changes_between v w))
    ≡ cond (is_among x (differing same_view v w)) (Some (get v x)) None
found_before v w x =
    let xs = differing same_view v w in
    ap (find sub_id_cmp x) (before_is (get v) (get w) xs)
    ∙ sym (get-from_entries sub_ids_total (map (λ y. (y, get v y)) xs) x)
    ∙ get_cells_at sub_ids_total sub_ids_exact v xs x

-- by whether an edit altered the subchannel, and a later one
first_by : (v w : Option View) (a b : Bool) → (a ≡ false → v ≡ w)
    → option_or (cond a (Some v) None) (cond b (Some w) None) ≡ cond (a || b) (Some v) None
first_by v w true b same = refl
first_by v w false b same = ap (λ z. cond b (Some z) None) (sym (same refl))

-- at a subchannel that edits altered, what was seen before all of them is found first
pub first_is : (es : List Edit) (s : State) (x : SubId) → find sub_id_cmp x (told_first (told_of_all es s))
    ≡ cond (is_among x (cells_written_by_all es s).subchannels) (Some (seen_in s x)) None
first_is [] s x = refl
first_is (e ∷ es) s x =
    let t = state_after e s in
    let here = altered_between s t in
    let later = (cells_written_by_all es t).subchannels in
    find_append sub_id_cmp x (seen_before (changes_between (views_in s) (views_in t))) (told_first (told_of_all es t))
    ∙ (λ i. option_or (found_before (views_in s) (views_in t) x i) (first_is es t x i))
    ∙ first_by (seen_in s x) (seen_in t x) (is_among x here) (is_among x later)
    (λ none. sight_is (seen_in s x) (seen_in t x)
    (not-false _ (sym (in_differing sub_ids_total sub_ids_exact same_view (views_in s) (views_in t) x) ∙ none)))
    ∙ ap (λ b. cond b (Some (seen_in s x)) None) (sym (list_any-append (eq_by_cmp sub_id_cmp x) here later))

-- ---- the rows

-- the rows of what was seen first, in order, are those of the subchannels that were altered
pub rows_are : (performed : List Touched) (rows : List SeenRow) → IsStrictlySortedBy sub_id_cmp (keys_of rows)
    → ((x : SubId) → find sub_id_cmp x rows ≡ find sub_id_cmp x (seen_before_edits performed))
    → (es : List Edit) (s t : State) → AreToldBy performed (told_of_all es s)
    → map (row_of t) rows ≡ altered_rows es s t
rows_are performed rows rise is es s t told =
    let xs = (cells_written_by_all es s).subchannels in
    let cells = cells_at (views_in s) xs in
    let same : rows ≡ entries cells =
    same_entries sub_id_cmp sub_ids_total sub_ids_exact rows (entries cells) (rows_sorted sub_id_cmp rows rise)
    (entries_sorted cells)
    (λ x. is x ∙ ap (find sub_id_cmp x) (told_is performed (told_of_all es s) told) ∙ first_is es s x
    ∙ sym (get_cells_at sub_ids_total sub_ids_exact (views_in s) xs x) ∙ get-entries cells x) in
    ap (map (row_of t)) same
    ∙ ap (map (row_of t)) (cells_rows sub_ids_total sub_ids_exact (views_in s) xs)
    ∙ map-map (row_of t) (λ (x : SubId). (x, seen_in s x)) (keys cells)
    ∙ ap (map (view_change (get (views_in s)) (get (views_in t))))
    (same_keys sub_ids_total sub_ids_exact (views_in s) (state_after_all es s).lives xs)

-- ---- one edit

-- what was seen before an edit is told in order
told_in_order : (v w : Views) → IsStrictlySortedBy sub_id_cmp (keys_of (seen_before (changes_between v w)))
told_in_order v w =
    let xs = differing same_view v w in
    subst (IsStrictlySortedBy sub_id_cmp) (sym (ap keys_of (before_is (get v) (get w) xs) ∙ map-map _ _ xs ∙ map-id xs))
    (differing_rise sub_id_cmp same_view v w)

-- and so it is of one edit alone
pub one_is_in_order : (d : Touched) (es : List Edit) (s : State) → AreToldBy (d ∷ []) (told_of_all es s)
    → IsStrictlySortedBy sub_id_cmp (keys_of (seen_before_edits (d ∷ [])))
one_is_in_order d [] s told = absurd told
one_is_in_order d (e ∷ es) s told =
    let t = state_after e s in
    subst (λ rows. IsStrictlySortedBy sub_id_cmp (keys_of rows))
    (sym (append-nil (seen_before d.subchannels.items) ∙ ap seen_before told.0.1))
    (told_in_order (views_in s) (views_in t))

-- ---- how many, and in which order

subchannels_are : (v w : SubId → Option View) (xs : List SubId)
    → map (λ (r : ViewChange). r.subchannel) (map (view_change v w) xs) ≡ xs
subchannels_are v w xs = map-map (λ (r : ViewChange). r.subchannel) (view_change v w) xs ∙ map-id xs

pub rows_are_counted : RowsAreCounted
rows_are_counted es s t =
    let lives = (effect_of es s).lives in
    length-map (subchannels_altered es s) (view_change (get (views_in s)) (get (views_in t)))
    ∙ length-map (entries lives) (λ e. e.0) ∙ sym (len-entries lives)

pub rows_stand_in_order : RowsStandInOrder
rows_stand_in_order es s t =
    let lives = (effect_of es s).lives in
    subst (IsStrictlySortedBy sub_id_cmp) (sym (subchannels_are (get (views_in s)) (get (views_in t)) (keys lives)))
    (keys_rise sub_id_cmp (entries lives) (entries_sorted lives))

-- rows that are made of what was seen, in order, stand in order
pub made_in_order : (rows : List SeenRow) (t : State) → IsStrictlySortedBy sub_id_cmp (keys_of rows)
    → AreInOrder (map (row_of t) rows)
made_in_order rows t rise = subst (IsStrictlySortedBy sub_id_cmp)
    (sym (map-map (λ (r : ViewChange). r.subchannel) (row_of t) rows)) rise

-- there are as many subchannels of which it is known what was seen first as rows, whatever state
-- these are of
pub seen_are_counted : (performed : List Touched) (rows : List SeenRow) → IsStrictlySortedBy sub_id_cmp (keys_of rows)
    → ((x : SubId) → find sub_id_cmp x rows ≡ find sub_id_cmp x (seen_before_edits performed))
    → (es : List Edit) (s : State) → AreToldBy performed (told_of_all es s) → length rows ≡ len (effect_of es s).lives
seen_are_counted performed rows rise is es s told =
    sym (length-map rows (row_of s)) ∙ ap length (rows_are performed rows rise is es s s told) ∙ rows_are_counted es s s

-- of one edit there are as many as it tells of
pub one_is_counted : (d : Touched) (es : List Edit) (s : State) → AreToldBy (d ∷ []) (told_of_all es s)
    → length d.subchannels.items ≡ len (effect_of es s).lives
one_is_counted d es s told =
    sym (length-map d.subchannels.items (λ (c : ViewChange). (c.subchannel, c.before)))
    ∙ ap length (sym (append-nil (seen_before d.subchannels.items)))
    ∙ seen_are_counted (d ∷ []) (seen_before_edits (d ∷ [])) (one_is_in_order d es s told) (λ x. refl) es s told

-- ---- what they lead to

-- at a subchannel that no edit altered, the same is seen afterwards
unaltered : (es : List Edit) (s : State) (x : SubId) → is_among x (cells_written_by_all es s).subchannels ≡ false
    → seen_in s x ≡ seen_in (state_after_all es s) x
unaltered [] s x none = refl
unaltered (e ∷ es) s x none =
    let t = state_after e s in
    let here = not_in_first sub_id_cmp x (altered_between s t) (cells_written_by_all es t).subchannels none in
    sight_is (seen_in s x) (seen_in t x)
    (not-false _ (sym (in_differing sub_ids_total sub_ids_exact same_view (views_in s) (views_in t) x) ∙ here))
    ∙ unaltered es t x (not_in_second sub_id_cmp x (altered_between s t) (cells_written_by_all es t).subchannels none)

-- what is seen, but at the subchannels that edits altered as in other views, is those where they
-- differ nowhere else
leads : (es : List Edit) (s : State) (v w : Views)
    → ((x : SubId) → is_among x (cells_written_by_all es s).subchannels ≡ false → get v x ≡ get w x)
    → with_cells (map (λ x. (x, get w x)) (subchannels_altered es s)) v ≡ w
leads es s v w same =
    let xs = (cells_written_by_all es s).subchannels in
    ap (λ cells. with_cells cells v)
    (ap (map (λ x. (x, get w x))) (sym (same_keys sub_ids_total sub_ids_exact w (state_after_all es s).lives xs))
    ∙ sym (cells_rows sub_ids_total sub_ids_exact w xs))
    ∙ with_cells_is sub_ids_total sub_ids_exact v w xs same

pub rows_lead_to_the_table : RowsLeadToTheTable
rows_lead_to_the_table es s =
    let w = views_in (state_after_all es s) in
    ap (λ cells. with_cells cells (views_in s)) (map-map (λ (r : ViewChange). (r.subchannel, r.after))
    (view_change (get (views_in s)) (get w)) (subchannels_altered es s))
    ∙ leads es s (views_in s) w (unaltered es s)

pub rows_lead_back : RowsLeadBack
rows_lead_back es s =
    let w = views_in (state_after_all es s) in
    ap (λ cells. with_cells cells w) (map-map (λ (r : ViewChange). (r.subchannel, r.before))
    (view_change (get (views_in s)) (get w)) (subchannels_altered es s))
    ∙ leads es s w (views_in s) (λ x none. sym (unaltered es s x none))
