-- Images among the records.
use Rattle.std.proofs.Common.{◌≡◌, ℕ, ◌≤◌, Bool, true, false, nat_eq, nat_lt, ◌&&◌, ◌||◌, is_some, Option, List, []}
use Rattle.std.proofs.Common.{◌∷◌, refl, ap, ◌∙◌, arith}
use Rattle.std.proofs.lemmas.Bool.{false≢true}
use Rattle.std.proofs.lemmas.Bool.Decides.{nat_tests}
use Rattle.std.specs.Cmp.Lexicographic.{slice_cmp}
use Rattle.std.specs.List.{list_any, filter_map}
use Rattle.std.specs.Option.{option_map}
use Rattle.std.specs.Ordering.{is_le, nat_cmp}
use Rattle.std.specs.declared.cmp.Ordering.TheVariants.{Less}
use Rattle.iocm_types.specs.declared.key.Key.{Key}
use Rattle.iocm_types.specs.declared.key.Key.TheVariants as key
use Rattle.iocm_types.specs.Key.{key_cmp}
use Rattle.iocm_model.specs.Machine.Record.{Rec, ImageRecord, id, resource, image, limit, path, unit, device, online}
use Rattle.iocm_model.specs.Machine.Record.{key_of}
use Rattle.iocm_model.specs.Machine.Configuration.{as_image}
use Rattle.iocm_model.specs.Rules.EachRule.{same_name, is_image_named}
use Rattle.iocm_model.specs.Rules.FirstBreach.{first_record}
use Rattle.iocm_lookup.specs.Images.{is_named_in, is_past_images}
use Rattle.iocm_lookup.specs.Kinds.{kind_of}
use Rattle.iocm_lookup.proofs.Walks.{AreBehind, kinds_rise, not_behind, first_of_any}

-- an image of a name is one of the images
pub image_of_name : (name : List ℕ) (rs : List Rec)
    → list_any (is_image_named name) rs ≡ list_any (λ (i : ImageRecord). same_name name i.name) (filter_map as_image rs)
image_of_name name [] = refl
image_of_name name (id x ∷ rs) = image_of_name name rs
image_of_name name (resource x ∷ rs) = image_of_name name rs
image_of_name name (image x ∷ rs) = ap (λ b. same_name name x.name || b) (image_of_name name rs)
image_of_name name (limit x ∷ rs) = image_of_name name rs
image_of_name name (path x ∷ rs) = image_of_name name rs
image_of_name name (unit x ∷ rs) = image_of_name name rs
image_of_name name (device x ∷ rs) = image_of_name name rs
image_of_name name (online x ∷ rs) = image_of_name name rs

-- and so is one in a channel subsystem
pub image_in_subsystem : (css : ℕ) (name : List ℕ) (rs : List Rec)
    → list_any (is_named_in css name) rs
    ≡ list_any (λ (i : ImageRecord). nat_eq i.css css && same_name name i.name) (filter_map as_image rs)
image_in_subsystem css name [] = refl
image_in_subsystem css name (id x ∷ rs) = image_in_subsystem css name rs
image_in_subsystem css name (resource x ∷ rs) = image_in_subsystem css name rs
image_in_subsystem css name (image x ∷ rs) =
    ap (λ b. (nat_eq x.css css && same_name name x.name) || b) (image_in_subsystem css name rs)
image_in_subsystem css name (limit x ∷ rs) = image_in_subsystem css name rs
image_in_subsystem css name (path x ∷ rs) = image_in_subsystem css name rs
image_in_subsystem css name (unit x ∷ rs) = image_in_subsystem css name rs
image_in_subsystem css name (device x ∷ rs) = image_in_subsystem css name rs
image_in_subsystem css name (online x ∷ rs) = image_in_subsystem css name rs

-- ---- where the images of a channel subsystem are among the keys

past_kind : (css : ℕ) (k : Key) → is_past_images css k ≡ true → 2 ≤ kind_of k
past_kind css key.Id past = absurd (false≢true past)
past_kind css key.Resource past = absurd (false≢true past)
past_kind css (key.Image own mif) past = omega arith
past_kind css (key.Limit own set) past = omega arith
past_kind css (key.Path own number) past = omega arith
past_kind css (key.Unit number) past = omega arith
past_kind css (key.Device set number) past = omega arith
past_kind css (key.Online own chpid name) past = omega arith

image_rises : (css : ℕ) (a : Key) (own mif : ℕ) → key_cmp a (key.Image own mif) ≡ Less → is_past_images css a ≡ true
    → nat_lt css own ≡ true
image_rises css key.Id own mif less past = absurd (false≢true past)
image_rises css key.Resource own mif less past = absurd (false≢true past)
image_rises css (key.Image c m) own mif less past =
    let up = not_behind c own (nat_cmp c own) (slice_cmp nat_cmp (m ∷ []) (mif ∷ [])) refl less in
    grind (arith, nat_tests)
image_rises css (key.Limit c set) own mif less past = let up = kinds_rise (key.Limit c set) (key.Image own mif) less in
    absurd (omega arith)
image_rises css (key.Path c number) own mif less past = let up =
    kinds_rise (key.Path c number) (key.Image own mif) less in absurd (omega arith)
image_rises css (key.Unit number) own mif less past = let up = kinds_rise (key.Unit number) (key.Image own mif) less in
    absurd (omega arith)
image_rises css (key.Device set number) own mif less past = let up =
    kinds_rise (key.Device set number) (key.Image own mif) less in absurd (omega arith)
image_rises css (key.Online c chpid name) own mif less past = let up =
    kinds_rise (key.Online c chpid name) (key.Image own mif) less in absurd (omega arith)

past_rises : (css : ℕ) (a b : Key) → key_cmp a b ≡ Less → is_past_images css a ≡ true → is_past_images css b ≡ true
past_rises css a key.Id less past = let low = past_kind css a past in let up = kinds_rise a key.Id less in
    absurd (omega arith)
past_rises css a key.Resource less past = let low = past_kind css a past in let up = kinds_rise a key.Resource less in
    absurd (omega arith)
past_rises css a (key.Image own mif) less past = image_rises css a own mif less past
past_rises css a (key.Limit own set) less past = refl
past_rises css a (key.Path own number) less past = refl
past_rises css a (key.Unit number) less past = refl
past_rises css a (key.Device set number) less past = refl
past_rises css a (key.Online own chpid name) less past = refl

none_past_images : (css : ℕ) (name : List ℕ) (r : Rec) → is_named_in css name r ≡ true
    → is_past_images css (key_of r) ≡ false
none_past_images css name (image i) so = let same = same_css i.css (same_name name i.name) so in
    grind (arith, nat_tests)
  where
    same_css : (own : ℕ) (b : Bool) → (nat_eq own css && b) ≡ true → own ≡ css
    same_css own b h = grind (arith, nat_tests)
none_past_images css name (id x) so = absurd (false≢true so)
none_past_images css name (resource x) so = absurd (false≢true so)
none_past_images css name (limit x) so = absurd (false≢true so)
none_past_images css name (path x) so = absurd (false≢true so)
none_past_images css name (unit x) so = absurd (false≢true so)
none_past_images css name (device x) so = absurd (false≢true so)
none_past_images css name (online x) so = absurd (false≢true so)

-- no image of a channel subsystem is behind these keys
pub images_before : (css : ℕ) (name : List ℕ) → AreBehind (is_named_in css name) (is_past_images css)
images_before css name = record { rise = past_rises css; none = none_past_images css name }

-- and none is before this one
pub images_from : (css : ℕ) (name : List ℕ) (first : Key)
    → ((mif : ℕ) → is_le (key_cmp first (key.Image css mif)) ≡ true)
    → (r : Rec) → is_named_in css name r ≡ true → is_le (key_cmp first (key_of r)) ≡ true
images_from css name first before (image i) so =
    ap (λ (own : ℕ). is_le (key_cmp first (key.Image own i.mif))) (same_css i.css (same_name name i.name) so)
    ∙ before i.mif
  where
    same_css : (own : ℕ) (b : Bool) → (nat_eq own css && b) ≡ true → own ≡ css
    same_css own b h = grind (arith, nat_tests)
images_from css name first before (id x) so = absurd (false≢true so)
images_from css name first before (resource x) so = absurd (false≢true so)
images_from css name first before (limit x) so = absurd (false≢true so)
images_from css name first before (path x) so = absurd (false≢true so)
images_from css name first before (unit x) so = absurd (false≢true so)
images_from css name first before (device x) so = absurd (false≢true so)
images_from css name first before (online x) so = absurd (false≢true so)

-- what a walk over the records tells of the images
pub told_of_images : (css : ℕ) (name : List ℕ) (rs : List Rec) (found : Option Key)
    → found ≡ option_map key_of (first_record (is_named_in css name) rs)
    → is_some found ≡ list_any (λ (i : ImageRecord). nat_eq i.css css && same_name name i.name) (filter_map as_image rs)
told_of_images css name rs found is =
    ap is_some is ∙ first_of_any (is_named_in css name) rs ∙ image_in_subsystem css name rs
