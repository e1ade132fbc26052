-- A walk over the records from the first key of an image on finds the images of a choice, and finds
-- them in order.
use Rattle.std.proofs.Common.{◌≡◌, ℕ, ◌<◌, ◌≤◌, Bool, true, false, cond, nat_lt, List, [], ◌∷◌, ◌++◌, T, refl, sym, ap}
use Rattle.std.proofs.Common.{subst, ◌∙◌, append_assoc, arith}
use Rattle.std.proofs.lemmas.Bool.{ltb-true, false≢true}
use Rattle.std.proofs.lemmas.List.{append-nil}
use Rattle.std.specs.List.{flat_map, AllByRecursion}
use Rattle.std.specs.List.Sorted.{IsStrictlySortedBy}
use Rattle.std.specs.Ordering.{is_le, is_lt, nat_cmp, ordering_then}
use Rattle.std.specs.declared.cmp.Ordering.{Ordering}
use Rattle.std.specs.declared.cmp.Ordering.TheVariants.{Less, Equal, Greater}
use Rattle.std.specs.FinMap.{entries, entries_sorted, is_sorted}
use Rattle.std.specs.FinMap.Entries.{below_all, is_sorted-where_key}
use Rattle.iocm_types.specs.declared.image.Image as images
use Rattle.iocm_types.specs.declared.key.Key.{Key}
use Rattle.iocm_types.specs.declared.key.Key.TheVariants as key
use Rattle.iocm_types.specs.Key.{key_cmp}
use Rattle.iocm_types.specs.SubId.{image_cmp}
use Rattle.iocm_types.proofs.Orderings.{less_is}
use Rattle.iocm_types.proofs.Tests.{first_holds, second_holds}
use Rattle.iocm_table.specs.Slots.{rows_from}
use Rattle.iocm_model.specs.Machine.Record.{Rec, ImageRecord, key_of, id, resource, image, limit, path, unit, device}
use Rattle.iocm_model.specs.Machine.Record.{online}
use Rattle.iocm_model.specs.Machine.Configuration.{Configuration, IsKeyed, with_keys, records_of}
use Rattle.iocm_lookup.specs.Kinds.{kind_of}
use Rattle.iocm_lookup.specs.Entries.{AreOwn, in_entries}
use Rattle.iocm_lookup.proofs.Walks.{own_entries, kinds_rise}
use Rattle.iocm_affected.specs.Listing.{Choice, images_at, images_in}

-- the images of a choice among some entries
abbrev pub images_among : Choice → List (Key × Rec) → List images.Image
images_among choice es = flat_map (images_at choice) (in_entries es)

-- what a walk has listed, and the entries in order that it has left, give the images of the choice
pub record IsLeft (choice : Choice) (c : Configuration) (listed : List images.Image) (es : List (Key × Rec)) : Type
    0 where
  pub own : AreOwn es
  pub up : T (is_sorted key_cmp es)
  pub whole : listed ++ images_among choice es ≡ images_in choice c

-- a record is that of an image, or of none of a choice
image_or_none : (choice : Choice) (P : List images.Image → Type 0) (r : Rec)
    → ((i : ImageRecord) → r ≡ image i → P (images_at choice (image i))) → P [] → P (images_at choice r)
image_or_none choice P (image i) is none = is i refl
image_or_none choice P (id x) is none = none
image_or_none choice P (resource x) is none = none
image_or_none choice P (limit x) is none = none
image_or_none choice P (path x) is none = none
image_or_none choice P (unit x) is none = none
image_or_none choice P (device x) is none = none
image_or_none choice P (online x) is none = none

-- a record of another kind is that of no image
not_image : (choice : Choice) (r : Rec) → (kind_of (key_of r) ≡ 2 → ⊥) → images_at choice r ≡ []
not_image choice r other =
    image_or_none choice (λ ms. ms ≡ []) r (λ i is. absurd (other (ap (λ x. kind_of (key_of x)) is))) refl

-- ---- from the first key on

own_from : (first : Key) (es : List (Key × Rec)) → AreOwn es → AreOwn (rows_from key_cmp first es)
own_from first [] own = tt
own_from first (e ∷ es) own = by (is_le (key_cmp first e.0)) (own_from first es own.1)
  where
    by : (b : Bool) → AreOwn (rows_from key_cmp first es)
        → AreOwn (cond b (e ∷ rows_from key_cmp first es) (rows_from key_cmp first es))
    by true rest = (own.0, rest)
    by false rest = rest

module _ (choice : Choice) where
  -- no image stands before the key of RESOURCE
  behind_resource : (e : Key × Rec) → e.0 ≡ key_of e.1 → is_le (key_cmp key.Resource e.0) ≡ false
      → images_at choice e.1 ≡ []
  behind_resource e own before = image_or_none choice (λ ms. ms ≡ []) e.1
      (λ i is. absurd (false≢true (sym before ∙ ap (λ k. is_le (key_cmp key.Resource k)) (own ∙ ap key_of is)))) refl

  same_from : (es : List (Key × Rec)) → AreOwn es
      → images_among choice (rows_from key_cmp key.Resource es) ≡ images_among choice es
  same_from [] own = refl
  same_from (e ∷ es) own = by (is_le (key_cmp key.Resource e.0)) refl (same_from es own.1)
    where
      by : (b : Bool) → is_le (key_cmp key.Resource e.0) ≡ b
          → images_among choice (rows_from key_cmp key.Resource es) ≡ images_among choice es
          → images_among choice (cond b (e ∷ rows_from key_cmp key.Resource es) (rows_from key_cmp key.Resource es))
          ≡ images_at choice e.1 ++ images_among choice es
      by true is same = ap (λ ms. images_at choice e.1 ++ ms) same
      by false is same = same ∙ ap (λ ms. ms ++ images_among choice es) (sym (behind_resource e own.0 is))

  pub left_at_first : (c : Configuration) → IsKeyed c → (listed : List images.Image) → listed ≡ []
      → IsLeft choice c listed (rows_from key_cmp key.Resource (entries c))
  left_at_first c keyed listed none = record {
    own = own_from key.Resource (entries c) (own_entries c keyed);
    up = is_sorted-where_key key_cmp (λ k. is_le (key_cmp key.Resource k)) (entries c) (entries_sorted c);
    whole = ap (λ ms. ms ++ images_among choice (rows_from key_cmp key.Resource (entries c))) none
        ∙ same_from (entries c) (own_entries c keyed);
  }

  module _ (c : Configuration) where
    -- one entry more
    pub listed_one : (e : Key × Rec) (es : List (Key × Rec)) (listed more : List images.Image)
        → more ≡ listed ++ images_at choice e.1
        → IsLeft choice c listed (e ∷ es) → IsLeft choice c more es
    listed_one e es listed more is left = record {
      own = left.own.1;
      up = second_holds _ _ left.up;
      whole = ap (λ ms. ms ++ images_among choice es) is
          ∙ append_assoc listed (images_at choice e.1) (images_among choice es) ∙ left.whole;
    }

    none_behind : (k : Key) (es : List (Key × Rec)) → 2 < kind_of k → AreOwn es → T (below_all key_cmp k es)
        → images_among choice es ≡ []
    none_behind k [] past own below = refl
    none_behind k (e ∷ es) past own below =
        let rise : kind_of k ≤ kind_of e.0 =
        kinds_rise k e.0 (less_is _ (first_holds (is_lt (key_cmp k e.0)) _ below)) in
        let kind : kind_of e.0 ≡ kind_of (key_of e.1) = ap kind_of own.0 in
        (λ i. not_image choice e.1 (λ two. omega arith) i ++ none_behind k es past own.1 (second_holds _ _ below) i)

    -- past the images all are listed
    pub listed_past : (e : Key × Rec) (es : List (Key × Rec)) (listed : List images.Image)
        → nat_lt 2 (kind_of e.0) ≡ true
        → IsLeft choice c listed (e ∷ es) → listed ≡ images_in choice c
    listed_past e es listed test left =
        let past = ltb-true 2 (kind_of e.0) test in
        let kind : kind_of e.0 ≡ kind_of (key_of e.1) = ap kind_of left.own.0 in
        let none : images_among choice (e ∷ es) ≡ [] =
        (λ i. not_image choice e.1 (λ two. omega arith) i
        ++ none_behind e.0 es past left.own.1 (first_holds _ _ left.up) i) in
        sym (append-nil listed) ∙ ap (λ ms. listed ++ ms) (sym none) ∙ left.whole

    -- so they are at the end
    pub listed_all : (listed : List images.Image) → IsLeft choice c listed [] → listed ≡ images_in choice c
    listed_all listed left = sym (append-nil listed) ∙ left.whole

-- ---- they rise

less_image : (a b c d : ℕ) (r s : Ordering) → nat_cmp a b ≡ r → nat_cmp c d ≡ s
    → T (is_lt (ordering_then r (ordering_then s Equal)))
    → ordering_then (nat_cmp a b) (nat_cmp c d) ≡ Less
less_image a b c d Less s first second less = ap (λ o. ordering_then o (nat_cmp c d)) first
less_image a b c d Equal Less first second less = (λ i. ordering_then (first i) (second i))
less_image a b c d Equal Equal first second less = absurd less
less_image a b c d Equal Greater first second less = absurd less
less_image a b c d Greater s first second less = absurd less

module _ (choice : Choice) where
  -- an image is before those of the records behind its own
  above : (i : ImageRecord) (rs : List Rec) → T (below_all key_cmp (key.Image i.css i.mif) (with_keys rs))
      → AllByRecursion (λ m. image_cmp (record { css = i.css; mif = i.mif }) m ≡ Less) (flat_map (images_at choice) rs)
  above i [] below = tt
  above i (r ∷ rs) below = image_or_none choice
      (λ ms. AllByRecursion (λ m. image_cmp (record { css = i.css; mif = i.mif }) m ≡ Less)
      (ms ++ flat_map (images_at choice) rs)) r
      (λ x is. by x (choice x.css x.name)
      (subst (λ q. T (is_lt (key_cmp (key.Image i.css i.mif) (key_of q)))) is (first_holds _ _ below))
      (above i rs (second_holds _ _ below)))
      (above i rs (second_holds _ _ below))
    where
      by : (x : ImageRecord) (b : Bool) → T (is_lt (key_cmp (key.Image i.css i.mif) (key.Image x.css x.mif)))
          → AllByRecursion (λ m. image_cmp (record { css = i.css; mif = i.mif }) m ≡ Less)
          (flat_map (images_at choice) rs)
          → AllByRecursion (λ m. image_cmp (record { css = i.css; mif = i.mif }) m ≡ Less)
          (cond b (record { css = x.css; mif = x.mif } ∷ []) [] ++ flat_map (images_at choice) rs)
      by x true less rest = (
        less_image i.css x.css i.mif x.mif (nat_cmp i.css x.css) (nat_cmp i.mif x.mif) refl refl
            less,
        rest,
      )
      by x false less rest = rest

  rising : (rs : List Rec) → T (is_sorted key_cmp (with_keys rs))
      → IsStrictlySortedBy image_cmp (flat_map (images_at choice) rs)
  unfolding IsStrictlySortedBy
  rising [] up = tt
  rising (r ∷ rs) up = image_or_none choice (λ ms. IsStrictlySortedBy image_cmp (ms ++ flat_map (images_at choice) rs))
      r
      (λ x is. by x (choice x.css x.name)
      (subst (λ q. T (below_all key_cmp (key_of q) (with_keys rs))) is (first_holds _ _ up))
      (rising rs (second_holds _ _ up)))
      (rising rs (second_holds _ _ up))
    where
      by : (x : ImageRecord) (b : Bool) → T (below_all key_cmp (key.Image x.css x.mif) (with_keys rs))
          → IsStrictlySortedBy image_cmp (flat_map (images_at choice) rs)
          → IsStrictlySortedBy image_cmp
          (cond b (record { css = x.css; mif = x.mif } ∷ []) [] ++ flat_map (images_at choice) rs)
      by x true below rest = (above x rs below, rest)
      by x false below rest = rest

  -- the images of a choice rise
  pub images_rise : (c : Configuration) → IsKeyed c → IsStrictlySortedBy image_cmp (images_in choice c)
  images_rise c keyed = rising (records_of c)
      (subst (λ (es : List (Key × Rec)). T (is_sorted key_cmp es)) keyed (entries_sorted c))

-- no image, and one alone, rise
pub none_rise : (ms : List images.Image) → ms ≡ [] → IsStrictlySortedBy image_cmp ms
unfolding IsStrictlySortedBy
none_rise ms is = subst (IsStrictlySortedBy image_cmp) (sym is) tt

pub one_rises : (ms : List images.Image) (m : images.Image) → ms ≡ m ∷ [] → IsStrictlySortedBy image_cmp ms
unfolding IsStrictlySortedBy
one_rises ms m is = subst (IsStrictlySortedBy image_cmp) (sym is) (tt, tt)
