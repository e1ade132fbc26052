-- Candidates stand in the order of subchannels where images and cells do, and so all changes among
-- them are the changes in order.
use Rattle.std.proofs.Common.{◌≡◌, ℕ, ◌==◌, eqb-true, Bool, true, false, cond, not, ◌&&◌, List, [], ◌∷◌, ◌++◌, map}
use Rattle.std.proofs.Common.{filter, Option, Some, None, is_some, T, refl, sym, ap, subst, ◌∙◌}
use Rattle.std.specs.List.{list_any, filter_map, cons_option, AllByRecursion}
use Rattle.std.specs.List.Sorted.{IsStrictlySortedBy}
use Rattle.std.specs.Map.{keys_of}
use Rattle.std.specs.Option.{option_eq}
use Rattle.std.specs.Ordering.{eq_by_cmp, ordering_then, nat_cmp}
use Rattle.std.specs.declared.cmp.Ordering.{Ordering}
use Rattle.std.specs.declared.cmp.Ordering.TheVariants.{Less}
use Rattle.std.specs.Cmp.{IsTotalOrder, tied_itself, nat_cmp_total}
use Rattle.std.specs.FinMap.{FinMap, IsAntisymmetric, find, is_sorted, get, entries, entries_sorted, from_entries}
use Rattle.std.specs.FinMap.{get-from_entries}
use Rattle.std.specs.FinMap.Entries.{is_some-find, same_entries}
use Rattle.std.proofs.lemmas.List.Kept.{IsStrictlySortedBy-filter}
use Rattle.iocm_types.specs.declared.image.Image.{Image}
use Rattle.iocm_types.specs.declared.place.NumberCell.{NumberCell}
use Rattle.iocm_types.specs.declared.sub_id.SubId.{SubId}
use Rattle.iocm_types.specs.declared.view.View.{View}
use Rattle.iocm_types.specs.SubId.{sub_id_cmp, image_cmp}
use Rattle.iocm_types.specs.Place.{cell_cmp}
use Rattle.iocm_types.specs.KeyOrder.{sub_ids_total, sub_ids_exact, images_total}
use Rattle.iocm_types.proofs.InOrder.{keys_rise, rows_sorted}
use Rattle.iocm_model.specs.Machine.Configuration.{Configuration, IsKeyed}
use Rattle.iocm_model.specs.Machine.Numbering.{Numbering}
use Rattle.iocm_model.specs.Machine.View.{views, view_at}
use Rattle.iocm_model.specs.Operation.State.{Views, views_of, is_among}
use Rattle.iocm_model.specs.Change.Edit.{same_view}
use Rattle.iocm_model.specs.Change.Maps.{differing}
use Rattle.iocm_model.proofs.Machine.Views.{views_listed}
use Rattle.iocm_model.proofs.Maps.Cells.{in_differing, any_filter}
use Rattle.iocm_seats.specs.Changes.{view_change, change_at, changes_between, subchannel_at, candidates, AreCandidates}

-- what is seen, as a table and by the definition
pub seen_is : (c : Configuration) (n : Numbering) → IsKeyed c → (x : SubId) → get (views_of c n) x ≡ view_at c n x
seen_is c n keyed x = get-from_entries sub_ids_total (views c n) x ∙ (views_listed c n keyed).exact x

-- ---- lists in order

module _ {K : Type 0} (R : K → K → Ordering) where
  -- a key as a row with nothing in it
  abbrev as_row : K → K × Unit {0}
  as_row k = (k, tt)

  keys_again : (ks : List K) → map (λ (e : K × Unit {0}). e.0) (map as_row ks) ≡ ks
  keys_again [] = refl
  keys_again (k ∷ ks) = ap (λ xs. k ∷ xs) (keys_again ks)

  marked_sorted : (ks : List K) → IsStrictlySortedBy R ks → T (is_sorted R (map as_row ks))
  marked_sorted ks rise = rows_sorted R (map as_row ks)
      (subst (λ xs. IsStrictlySortedBy R xs) (sym (keys_again ks)) rise)

  nothing_more : (a b : Option (Unit {0})) → is_some a ≡ is_some b → a ≡ b
  nothing_more None None h = refl
  nothing_more None (Some x) h = cc
  nothing_more (Some x) None h = cc
  nothing_more (Some x) (Some y) h = refl

  found_row : (q : K) (ks : List K) → is_some (find R q (map as_row ks)) ≡ list_any (eq_by_cmp R q) ks
  found_row q ks = is_some-find R q (map as_row ks) ∙ ap (list_any (eq_by_cmp R q)) (keys_again ks)

  -- lists in order with the same members are one
  pub same_members : IsTotalOrder R → IsAntisymmetric R → (xs ys : List K) → IsStrictlySortedBy R xs
      → IsStrictlySortedBy R ys
      → ((q : K) → list_any (eq_by_cmp R q) xs ≡ list_any (eq_by_cmp R q) ys) → xs ≡ ys
  same_members total exact xs ys rise rises same =
      sym (keys_again xs) ∙ ap (map (λ (e : K × Unit {0}). e.0))
      (same_entries R total exact (map as_row xs) (map as_row ys) (marked_sorted xs rise) (marked_sorted ys rises)
      (λ q. nothing_more _ _ (found_row q xs ∙ same q ∙ sym (found_row q ys)))) ∙ keys_again ys

  all_both : (P : K → Type 0) (xs ys : List K) → AllByRecursion P xs → AllByRecursion P ys → AllByRecursion P (xs ++ ys)
  all_both P [] ys all more = more
  all_both P (x ∷ xs) ys all more = (all.0, all_both P xs ys all.1 more)

  -- one list in order before another
  both_rise : (xs ys : List K) → IsStrictlySortedBy R xs → IsStrictlySortedBy R ys
      → AllByRecursion (λ x. AllByRecursion (λ y. R x y ≡ Less) ys) xs
      → IsStrictlySortedBy R (xs ++ ys)
  unfolding IsStrictlySortedBy
  both_rise [] ys rise rises apart = rises
  both_rise (x ∷ xs) ys rise rises apart =
      (all_both (λ y. R x y ≡ Less) xs ys rise.0 apart.0, both_rise xs ys rise.1 rises apart.1)

-- the keys at which two maps differ stand in order
pub differing_rise : {K X : Type 0} (R : K → K → Ordering) (same : X → X → Bool) (m n : FinMap R X)
    → IsStrictlySortedBy R (differing same m n)
differing_rise R same m n =
    let both = from_entries {R = R} (entries m ++ entries n) in
    IsStrictlySortedBy-filter R (λ key. not (option_eq same (get m key) (get n key))) (keys_of (entries both))
    (keys_rise R (entries both) (entries_sorted both))

-- ---- the candidates

-- the subchannels of one image
abbrev block : Image → List NumberCell → List SubId
block i cells = map (subchannel_at i) cells

less_there : (i : Image) (a b : NumberCell) → a.css ≡ i.css → b.css ≡ i.css → cell_cmp a b ≡ Less
    → sub_id_cmp (subchannel_at i a) (subchannel_at i b) ≡ Less
less_there i a b own other less =
    ap (λ r. ordering_then r (ordering_then (nat_cmp a.set b.set) (nat_cmp a.number b.number)))
    (tied_itself images_total i)
    ∙ sym (ap (λ r. ordering_then r (ordering_then (nat_cmp a.set b.set) (nat_cmp a.number b.number)))
    (ap (λ z. nat_cmp a.css z) (other ∙ sym own) ∙ tied_itself nat_cmp_total a.css)) ∙ less

block_below : (i : Image) (a : NumberCell) (cells : List NumberCell) → a.css ≡ i.css
    → AllByRecursion (λ (c : NumberCell). c.css ≡ i.css) cells
    → AllByRecursion (λ c. cell_cmp a c ≡ Less) cells
    → AllByRecursion (λ y. sub_id_cmp (subchannel_at i a) y ≡ Less) (block i cells)
block_below i a [] own all less = tt
block_below i a (c ∷ cells) own all less = (less_there i a c own all.0 less.0, block_below i a cells own all.1 less.1)

block_rises : (i : Image) (cells : List NumberCell) → AllByRecursion (λ (c : NumberCell). c.css ≡ i.css) cells
    → IsStrictlySortedBy cell_cmp cells
    → IsStrictlySortedBy sub_id_cmp (block i cells)
unfolding IsStrictlySortedBy
block_rises i [] all rise = tt
block_rises i (c ∷ cells) all rise = (block_below i c cells all.0 all.1 rise.0, block_rises i cells all.1 rise.1)

own_css : (css : ℕ) (cells : List NumberCell)
    → AllByRecursion (λ (c : NumberCell). c.css ≡ css) (filter (λ (c : NumberCell). c.css == css) cells)
own_css css [] = tt
own_css css (c ∷ cells) = by (c.css == css) refl (own_css css cells)
  where
    by : (b : Bool) → (c.css == css) ≡ b
        → AllByRecursion (λ (d : NumberCell). d.css ≡ css) (filter (λ (d : NumberCell). d.css == css) cells)
        → AllByRecursion (λ (d : NumberCell). d.css ≡ css)
        (cond b (c ∷ filter (λ (d : NumberCell). d.css == css) cells)
        (filter (λ (d : NumberCell). d.css == css) cells))
    by true is all = (eqb-true c.css css is, all)
    by false is all = all

image_before : (i j : Image) (cells : List NumberCell) → image_cmp i j ≡ Less
    → AllByRecursion (λ (y : SubId). image_cmp i y.image ≡ Less) (block j cells)
image_before i j [] less = tt
image_before i j (c ∷ cells) less = (less, image_before i j cells less)

images_before : (i : Image) (images : List Image) (cells : List NumberCell)
    → AllByRecursion (λ j. image_cmp i j ≡ Less) images
    → AllByRecursion (λ (y : SubId). image_cmp i y.image ≡ Less) (candidates images cells)
images_before i [] cells all = tt
images_before i (j ∷ images) cells all =
    all_both sub_id_cmp (λ (y : SubId). image_cmp i y.image ≡ Less)
    (block j (filter (λ (c : NumberCell). c.css == j.css) cells)) (candidates images cells)
    (image_before i j (filter (λ (c : NumberCell). c.css == j.css) cells) all.0) (images_before i images cells all.1)

by_image : (i : Image) (c : NumberCell) (ys : List SubId)
    → AllByRecursion (λ (y : SubId). image_cmp i y.image ≡ Less) ys
    → AllByRecursion (λ y. sub_id_cmp (subchannel_at i c) y ≡ Less) ys
by_image i c [] all = tt
by_image i c (y ∷ ys) all = (
  ap (λ r. ordering_then r (ordering_then (nat_cmp c.set y.set) (nat_cmp c.number y.number))) all.0,
  by_image i c ys all.1,
)

block_before : (i : Image) (cells : List NumberCell) (ys : List SubId)
    → AllByRecursion (λ (y : SubId). image_cmp i y.image ≡ Less) ys
    → AllByRecursion (λ x. AllByRecursion (λ y. sub_id_cmp x y ≡ Less) ys) (block i cells)
block_before i [] ys all = tt
block_before i (c ∷ cells) ys all = (by_image i c ys all, block_before i cells ys all)

pub candidates_rise : (images : List Image) (cells : List NumberCell) → IsStrictlySortedBy image_cmp images
    → IsStrictlySortedBy cell_cmp cells
    → IsStrictlySortedBy sub_id_cmp (candidates images cells)
unfolding IsStrictlySortedBy
candidates_rise [] cells rise rises = tt
candidates_rise (i ∷ images) cells rise rises =
    let here = filter (λ (c : NumberCell). c.css == i.css) cells in
    both_rise sub_id_cmp (block i here) (candidates images cells)
    (block_rises i here (own_css i.css cells)
    (IsStrictlySortedBy-filter cell_cmp (λ (c : NumberCell). c.css == i.css) cells rises))
    (candidates_rise images cells rise.1 rises)
    (block_before i here (candidates images cells) (images_before i images cells rise.0))

-- ---- the changes among them

changed_by : (v w : SubId → Option View) (x : SubId) (b : Bool) (rest : List SubId)
    → cons_option (cond b None (Some (view_change v w x))) (map (view_change v w) rest)
    ≡ map (view_change v w) (cond (not b) (x ∷ rest) rest)
changed_by v w x true rest = refl
changed_by v w x false rest = refl

changed_are : (v w : SubId → Option View) (xs : List SubId)
    → filter_map (change_at v w) xs ≡ map (view_change v w) (filter (λ x. not (option_eq same_view (v x) (w x))) xs)
changed_are v w [] = refl
changed_are v w (x ∷ xs) = ap (cons_option (change_at v w x)) (changed_are v w xs)
    ∙ changed_by v w x (option_eq same_view (v x) (w x)) (filter (λ y. not (option_eq same_view (v y) (w y))) xs)

among_by : (a b : Bool) → (b ≡ false → a ≡ true) → (a && not b) ≡ not b
among_by true b h = refl
among_by false true h = refl
among_by false false h = h refl

-- all changes, where all that differs is among these
pub all_changes : (v w : Views) (xs : List SubId) → IsStrictlySortedBy sub_id_cmp xs → AreCandidates (get v) (get w) xs
    → filter_map (change_at (get v) (get w)) xs ≡ changes_between v w
all_changes v w xs rise all =
    let differs : SubId → Bool = λ x. not (option_eq same_view (get v x) (get w x)) in
    let both = from_entries {R = sub_id_cmp} (entries v ++ entries w) in
    changed_are (get v) (get w) xs
    ∙ ap (map (view_change (get v) (get w)))
    (same_members sub_id_cmp sub_ids_total sub_ids_exact (filter differs xs) (differing same_view v w)
    (IsStrictlySortedBy-filter sub_id_cmp differs xs rise)
    (IsStrictlySortedBy-filter sub_id_cmp differs (keys_of (entries both))
    (keys_rise sub_id_cmp (entries both) (entries_sorted both)))
    (λ q. any_filter sub_ids_exact q xs differs
    ∙ among_by (is_among q xs) (option_eq same_view (get v q) (get w q)) (all q)
    ∙ sym (in_differing sub_ids_total sub_ids_exact same_view v w q)))

-- the same where what is seen is given by the definition
pub all_changes_seen : (v : Views) (c : Configuration) (n : Numbering) (xs : List SubId) → IsKeyed c
    → IsStrictlySortedBy sub_id_cmp xs → AreCandidates (get v) (view_at c n) xs
    → filter_map (change_at (get v) (view_at c n)) xs ≡ changes_between v (views_of c n)
all_changes_seen v c n xs keyed rise all =
    let same : ◌≡◌ {A = SubId → Option View} (get (views_of c n)) (view_at c n) = λ i x. seen_is c n keyed x i in
    ap (λ (w : SubId → Option View). filter_map (change_at (get v) w) xs) (sym same)
    ∙ all_changes v (views_of c n) xs rise
    (λ x differ. all x (ap (λ (w : SubId → Option View). option_eq same_view (get v x) (w x)) (sym same) ∙ differ))
