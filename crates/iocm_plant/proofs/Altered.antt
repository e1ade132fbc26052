-- Lists of altered subchannels: the live records that they had, those that are left, and their
-- order.
use Rattle.std.proofs.Common.{◌≡◌, Bool, true, false, cond, ◌&&◌, ◌||◌, List, [], ◌∷◌, map, filter, Option, Some, None}
use Rattle.std.proofs.Common.{is_some}
use Rattle.std.proofs.Common.{T, refl, sym, ap, subst, ◌∙◌}
use Rattle.std.specs.List.{cons_option, AllByRecursion}
use Rattle.std.specs.List.Sorted.{IsStrictlySortedBy}
use Rattle.std.specs.Map.{keys_of}
use Rattle.std.specs.Option.{option_map}
use Rattle.std.specs.Ordering.{eq_by_cmp, is_eq, is_lt}
use Rattle.std.specs.declared.cmp.Ordering.TheVariants.{Less}
use Rattle.std.specs.FinMap.{get, find, is_sorted, from_sorted, retain_keys, same_map, get-from_sorted}
use Rattle.std.specs.FinMap.Entries.{below_all}
use Rattle.std.proofs.lemmas.List.Kept.{IsStrictlySortedBy-filter}
use Rattle.std.proofs.lemmas.Map.Keys.{sorted_head, sorted_tail}
use Rattle.iocm_types.specs.declared.live.Live.{Live}
use Rattle.iocm_types.specs.declared.sub_id.SubId.{SubId}
use Rattle.iocm_types.specs.declared.view.View.{View}
use Rattle.iocm_types.specs.SubId.{sub_id_cmp}
use Rattle.iocm_types.specs.KeyOrder.{sub_ids_total, sub_ids_exact}
use Rattle.iocm_types.proofs.Found.{same_key}
use Rattle.iocm_types.proofs.Tests.{both_hold}
use Rattle.iocm_model.specs.Change.Edit.{same_view}
use Rattle.iocm_model.specs.Change.Maps.{differing}
use Rattle.iocm_model.specs.Operation.State.{Lives, Views, is_among}
use Rattle.iocm_model.proofs.Maps.Cells.{get_retained}
use Rattle.iocm_seats.specs.declared.view_change.ViewChange.{ViewChange}
use Rattle.iocm_seats.specs.Changes.{view_change, changes_between}
use Rattle.iocm_seats.specs.Settling.{lives_met, subchannels_left}
use Rattle.iocm_seats.proofs.Ordered.{differing_rise}

-- the subchannels of changes
pub changed_subchannels : (v w : SubId → Option View) (xs : List SubId)
    → map (λ (ch : ViewChange). ch.subchannel) (map (view_change v w) xs) ≡ xs
changed_subchannels v w [] = refl
changed_subchannels v w (x ∷ xs) = ap (λ ys. x ∷ ys) (changed_subchannels v w xs)

module _ (lives : Lives) (v w : SubId → Option View) where
  -- the live records at some subchannels, each with its subchannel
  abbrev met_at : List SubId → List (SubId × Live)
  met_at xs = lives_met lives (map (view_change v w) xs)

  -- one row more: whether a subchannel is found in it or behind it
  found_by : (x k : SubId) (o : Option Live) (rest : List (SubId × Live)) (b among : Bool)
      → eq_by_cmp sub_id_cmp x k ≡ b → get lives k ≡ o
      → find sub_id_cmp x rest ≡ cond among (get lives x) None → (b ≡ true → among ≡ false)
      → find sub_id_cmp x (cons_option (option_map (λ (l : Live). (k, l)) o) rest)
      ≡ cond (b || among) (get lives x) None
  found_by x k None rest true among tied is more apart =
      more ∙ ap (λ a. cond a (get lives x) None) (apart refl)
      ∙ sym (ap (get lives) (same_key sub_id_cmp sub_ids_exact x k tied) ∙ is)
  found_by x k (Some l) rest true among tied is more apart =
      rw tied (sym (ap (get lives) (same_key sub_id_cmp sub_ids_exact x k tied) ∙ is))
  found_by x k None rest false among other is more apart = more
  found_by x k (Some l) rest false among other is more apart = rw other more

  -- a subchannel before all of some is none of them
  none_before : (k : SubId) (xs : List SubId) → AllByRecursion (λ y. sub_id_cmp k y ≡ Less) xs → is_among k xs ≡ false
  none_before k [] all = refl
  none_before k (x ∷ xs) all = rw (ap is_eq all.0) (none_before k xs all.1)

  -- at one of them its live record is found, elsewhere none
  find_met_at : (xs : List SubId) → IsStrictlySortedBy sub_id_cmp xs → (x : SubId)
      → find sub_id_cmp x (met_at xs) ≡ cond (is_among x xs) (get lives x) None
  find_met_at [] rise x = refl
  find_met_at (k ∷ xs) rise x = found_by x k (get lives k) (met_at xs) (eq_by_cmp sub_id_cmp x k) (is_among x xs) refl
      refl
      (find_met_at xs (sorted_tail sub_id_cmp k xs rise) x)
      (λ tied. ap (λ z. is_among z xs) (same_key sub_id_cmp sub_ids_exact x k tied)
      ∙ none_before k xs (sorted_head sub_id_cmp k xs rise))

  -- one row more: what stands before all of them stands before it too
  below_by : (k y : SubId) (o : Option Live) (rest : List (SubId × Live)) → sub_id_cmp k y ≡ Less
      → T (below_all sub_id_cmp k rest)
      → T (below_all sub_id_cmp k (cons_option (option_map (λ (l : Live). (y, l)) o) rest))
  below_by k y None rest less below = below
  below_by k y (Some l) rest less below =
      both_hold (is_lt (sub_id_cmp k y)) (below_all sub_id_cmp k rest) (subst (λ r. T (is_lt r)) (sym less) tt) below

  -- what stands before some subchannels stands before their rows
  below_met : (k : SubId) (xs : List SubId) → AllByRecursion (λ y. sub_id_cmp k y ≡ Less) xs
      → T (below_all sub_id_cmp k (met_at xs))
  below_met k [] all = tt
  below_met k (y ∷ xs) all = below_by k y (get lives y) (met_at xs) all.0 (below_met k xs all.1)

  -- one row more stands in order
  sorted_by : (k : SubId) (o : Option Live) (rest : List (SubId × Live)) → T (below_all sub_id_cmp k rest)
      → T (is_sorted sub_id_cmp rest)
      → T (is_sorted sub_id_cmp (cons_option (option_map (λ (l : Live). (k, l)) o) rest))
  sorted_by k None rest below up = up
  sorted_by k (Some l) rest below up = both_hold (below_all sub_id_cmp k rest) (is_sorted sub_id_cmp rest) below up

  -- live records at subchannels in order stand in order
  pub met_at_sorted : (xs : List SubId) → IsStrictlySortedBy sub_id_cmp xs → T (is_sorted sub_id_cmp (met_at xs))
  met_at_sorted [] rise = tt
  met_at_sorted (k ∷ xs) rise =
      sorted_by k (get lives k) (met_at xs) (below_met k xs (sorted_head sub_id_cmp k xs rise))
      (met_at_sorted xs (sorted_tail sub_id_cmp k xs rise))

  -- and are those that a test keeps, where it passes at these
  pub met_at_retained : (xs : List SubId) (test : SubId → Bool) → IsStrictlySortedBy sub_id_cmp xs
      → ((x : SubId) → is_among x xs ≡ test x)
      → from_sorted (met_at xs) ≡ retain_keys lives test
  met_at_retained xs test rise exactly = same_map sub_ids_total sub_ids_exact _ _ (λ x.
      get-from_sorted sub_id_cmp (met_at xs) x (met_at_sorted xs rise) ∙ find_met_at xs rise x
      ∙ ap (λ b. cond b (get lives x) None) (exactly x) ∙ sym (get_retained sub_ids_total sub_ids_exact lives test x))

  -- one change more: whether its subchannel is left
  left_by : (x k : SubId) (rest : List ViewChange) (b t among : Bool) → eq_by_cmp sub_id_cmp x k ≡ b → is_some (w k) ≡ t
      → is_among x (map (λ (ch : ViewChange). ch.subchannel) rest) ≡ (among && is_some (w x))
      → is_among x (map (λ (ch : ViewChange). ch.subchannel) (cond t (view_change v w k ∷ rest) rest))
      ≡ ((b || among) && is_some (w x))
  left_by x k rest true true among tied there more =
      rw tied (sym (ap (λ z. is_some (w z)) (same_key sub_id_cmp sub_ids_exact x k tied) ∙ there))
  left_by x k rest true false among tied there more =
      let none : is_some (w x) ≡ false = ap (λ z. is_some (w z)) (same_key sub_id_cmp sub_ids_exact x k tied) ∙ there in
      more ∙ ap (λ t. among && t) none ∙ never among ∙ sym none
    where
      never : (a : Bool) → (a && false) ≡ false
      never true = refl
      never false = refl
  left_by x k rest false true among other there more = rw other more
  left_by x k rest false false among other there more = more

  -- the subchannels that are left are those at which something is seen
  pub left_at : (xs : List SubId) (x : SubId)
      → is_among x (subchannels_left (map (view_change v w) xs)) ≡ (is_among x xs && is_some (w x))
  left_at [] x = refl
  left_at (k ∷ xs) x = left_by x k (filter (λ (ch : ViewChange). is_some ch.after) (map (view_change v w) xs))
      (eq_by_cmp sub_id_cmp x k) (is_some (w k))
      (is_among x xs) refl refl (left_at xs x)

-- ---- rows in order

-- what stands before the subchannels of rows stands before the rows
rows_below : (k : SubId) (rows : List (SubId × Live)) → AllByRecursion (λ y. sub_id_cmp k y ≡ Less) (keys_of rows)
    → T (below_all sub_id_cmp k rows)
rows_below k [] all = tt
rows_below k (row ∷ rows) all =
    both_hold (is_lt (sub_id_cmp k row.0)) (below_all sub_id_cmp k rows) (subst (λ r. T (is_lt r)) (sym all.0) tt)
    (rows_below k rows all.1)

-- rows stand in order where their subchannels do
rows_up : (rows : List (SubId × Live)) → IsStrictlySortedBy sub_id_cmp (keys_of rows) → T (is_sorted sub_id_cmp rows)
rows_up [] rise = tt
rows_up (row ∷ rows) rise =
    both_hold (below_all sub_id_cmp row.0 rows) (is_sorted sub_id_cmp rows)
    (rows_below row.0 rows (sorted_head sub_id_cmp row.0 (keys_of rows) rise))
    (rows_up rows (sorted_tail sub_id_cmp row.0 (keys_of rows) rise))

-- the subchannels that are left are those at which something is seen, in their order
left_are : (v w : SubId → Option View) (xs : List SubId)
    → subchannels_left (map (view_change v w) xs) ≡ filter (λ x. is_some (w x)) xs
left_are v w [] = refl
left_are v w (x ∷ xs) = by (is_some (w x)) (left_are v w xs)
  where
    by : (b : Bool) → map (λ (ch : ViewChange). ch.subchannel)
        (filter (λ (ch : ViewChange). is_some ch.after) (map (view_change v w) xs))
        ≡ filter (λ y. is_some (w y)) xs
        → map (λ (ch : ViewChange). ch.subchannel)
        (cond b (view_change v w x ∷ filter (λ (ch : ViewChange). is_some ch.after) (map (view_change v w) xs))
        (filter (λ (ch : ViewChange). is_some ch.after) (map (view_change v w) xs)))
        ≡ cond b (x ∷ filter (λ y. is_some (w y)) xs) (filter (λ y. is_some (w y)) xs)
    by true more = ap (λ ys. x ∷ ys) more
    by false more = more

-- rows for the subchannels that are left stand in order
pub left_sorted : (v w : Views) (meets : List (SubId × Live)) → keys_of meets ≡ subchannels_left (changes_between v w)
    → T (is_sorted sub_id_cmp meets)
left_sorted v w meets is = rows_up meets
    (subst (IsStrictlySortedBy sub_id_cmp) (sym (is ∙ left_are (get v) (get w) (differing same_view v w)))
    (IsStrictlySortedBy-filter sub_id_cmp (λ x. is_some (get w x)) (differing same_view v w)
    (differing_rise sub_id_cmp same_view v w)))
