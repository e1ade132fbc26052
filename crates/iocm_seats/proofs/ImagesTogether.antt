-- In the order of keys the images stand together, after ID and RESOURCE and before all others.
use Rattle.std.proofs.Common.{◌≡◌, ℕ, true, List, [], ◌∷◌, map, refl, sym, ap, subst, ◌∙◌}
use Rattle.std.proofs.lemmas.List.Elements.{filter_map-append}
use Rattle.std.specs.FinMap.{entries, entries_sorted}
use Rattle.std.specs.List.{filter_map, AllByRecursion}
use Rattle.std.specs.declared.cmp.Ordering.TheVariants.{Less}
use Rattle.iocm_types.specs.declared.key.Key.{Key}
use Rattle.iocm_types.specs.declared.key.Key.TheVariants.{Id, Resource, Image, Limit, Path, Unit, Device, Online}
use Rattle.iocm_types.specs.Key.{key_cmp}
use Rattle.iocm_model.specs.Machine.Record as records
use Rattle.iocm_model.specs.Machine.Record.{Rec, ImageRecord, key_of}
use Rattle.iocm_model.specs.Machine.Configuration.{Configuration, IsKeyed, as_image, records_of, with_keys}
use Rattle.iocm_seats.specs.Listing.{is_past_images}
use Rattle.iocm_seats.proofs.Together.{StandTogether, together}

abbrev Rows : Type 0
Rows = List (Key × Rec)

-- the records of some rows, and their images
abbrev pub records_in : Rows → List Rec
records_in rows = map (λ (e : Key × Rec). e.1) rows

abbrev pub images_in : Rows → List ImageRecord
images_in rows = filter_map as_image (records_in rows)

-- a row is past the images
abbrev pub IsPast : Key × Rec → Type 0
IsPast e = is_past_images e.0 ≡ true

-- ---- each row stands under its record's own key

abbrev IsOwn : Key × Rec → Type 0
IsOwn e = e.0 ≡ key_of e.1

own_keys : (rs : List Rec) → AllByRecursion IsOwn (with_keys rs)
own_keys [] = tt
own_keys (r ∷ rs) = (refl, own_keys rs)

own_rows : (m : Configuration) → IsKeyed m → AllByRecursion IsOwn (entries m)
own_rows m keyed = subst (AllByRecursion IsOwn) (sym keyed) (own_keys (records_of m))

-- so that a row that is past the images has none
no_image : (r : Rec) → is_past_images (key_of r) ≡ true → filter_map as_image (r ∷ []) ≡ []
no_image (records.id carried) is = refl
no_image (records.resource carried) is = refl
no_image (records.image r) is = cc
no_image (records.limit r) is = refl
no_image (records.path r) is = refl
no_image (records.unit r) is = refl
no_image (records.device r) is = refl
no_image (records.online r) is = refl

-- ---- behind a key that is past the images are no others

behind_id : (j : Key) → key_cmp j Id ≡ Less → ⊥
behind_id Id less = cc
behind_id Resource less = cc
behind_id (Image a b) less = cc
behind_id (Limit a b) less = cc
behind_id (Path a b) less = cc
behind_id (Unit a) less = cc
behind_id (Device a b) less = cc
behind_id (Online a b c) less = cc

behind_resource : (j : Key) → is_past_images j ≡ true → key_cmp j Resource ≡ Less → ⊥
behind_resource Id past less = cc
behind_resource Resource past less = cc
behind_resource (Image a b) past less = cc
behind_resource (Limit a b) past less = cc
behind_resource (Path a b) past less = cc
behind_resource (Unit a) past less = cc
behind_resource (Device a b) past less = cc
behind_resource (Online a b c) past less = cc

behind_image : (j : Key) (css mif : ℕ) → is_past_images j ≡ true → key_cmp j (Image css mif) ≡ Less → ⊥
behind_image Id css mif past less = cc
behind_image Resource css mif past less = cc
behind_image (Image a b) css mif past less = cc
behind_image (Limit a b) css mif past less = cc
behind_image (Path a b) css mif past less = cc
behind_image (Unit a) css mif past less = cc
behind_image (Device a b) css mif past less = cc
behind_image (Online a b c) css mif past less = cc

past_rises : (j k : Key) → is_past_images j ≡ true → key_cmp j k ≡ Less → is_past_images k ≡ true
past_rises j Id past less = absurd (behind_id j less)
past_rises j Resource past less = absurd (behind_resource j past less)
past_rises j (Image css mif) past less = absurd (behind_image j css mif past less)
past_rises j (Limit a b) past less = refl
past_rises j (Path a b) past less = refl
past_rises j (Unit a) past less = refl
past_rises j (Device a b) past less = refl
past_rises j (Online a b c) past less = refl

-- ---- the walk

pub images_together : (m : Configuration) → IsKeyed m → StandTogether IsPast images_in (entries m)
images_together m keyed = together key_cmp images_in refl
    (λ e es. filter_map-append as_image (e.1 ∷ []) (records_in es)) IsOwn IsPast
    (λ e own past. no_image e.1 (sym (ap is_past_images own) ∙ past))
    (λ d e own owns past less. past_rises d.0 e.0 past less)
    (entries m) (entries_sorted m) (own_rows m keyed)
