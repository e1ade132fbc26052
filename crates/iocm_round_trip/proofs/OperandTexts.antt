-- The text of each operand that a statement knows is clean.
use Rattle.std.proofs.Common.{◌≡◌, ℕ, ◌<◌, ◌≤◌, Bool, true, false, cond, Some, List, [], ◌∷◌, All, map, find, codes}
use Rattle.std.proofs.Common.{refl, arith}
use Rattle.std.proofs.lemmas.List.Elements.{All-nil, All-cons, All-head, All-tail, All-append, All-map}
use Rattle.std.specs.Fmt.{decimal}
use Rattle.std.specs.List.{flat_map, range_with_len}
use Rattle.std.specs.Option.{option_map_or}
use Rattle.iocm_types.specs.declared.css_path.CssPath.{CssPath}
use Rattle.iocm_types.specs.declared.link.CssLink.{CssLink}
use Rattle.iocm_types.specs.declared.link.Link.{Link}
use Rattle.iocm_types.specs.declared.link.Link.TheVariants as link
use Rattle.iocm_types.specs.declared.unit_range.UnitRange.{UnitRange}
use Rattle.iocm_types.specs.Name.{is_name}
use Rattle.iocm_types.specs.Print.{hex1, hex2, hex4}
use Rattle.iocm_model.specs.Machine.Numbering.{subsystems}
use Rattle.iocm_model.specs.Machine.Record.{ImageRecord, LimitRecord}
use Rattle.iocm_operands.specs.Again.{IsPath, IsRange, IsNameSet, IsWithinDigits, IsLink, IsImage, IsLimit}
use Rattle.iocm_operands.specs.ChpidPartition.{partition_text, rec_texts}
use Rattle.iocm_operands.specs.ChpidPath.{path_text}
use Rattle.iocm_operands.specs.Device.{devices_text, units_text}
use Rattle.iocm_operands.specs.Limits.{place_text, places_in, count_places, limits_text}
use Rattle.iocm_operands.specs.Resource.{image_text, images_text}
use Rattle.iocm_operands.specs.Unit.{path_item_text, paths_text, range_text, ranges_text, link_text, link_item_text}
use Rattle.iocm_operands.specs.Unit.{links_text}
use Rattle.iocm_values.specs.declared.texts.CssText.{CssText}
use Rattle.iocm_values.specs.NameSet.{names_text}
use Rattle.iocm_values.specs.Texts.{css_text}
use Rattle.iocm_round_trip.proofs.Texts.{IsClean, AreClean, clean_plain, clean_name, clean_hex1, clean_hex2, clean_hex4}
use Rattle.iocm_round_trip.proofs.Texts.{clean_decimal, clean_list, clean_pair, clean_css, clean_by_css}

-- ---- CHPID

pub path_clean : (css path : ℕ) → IsPath (record { css = css; path = path })
    → IsClean (path_text (record { css = css; path = path }))
path_clean css path is = clean_pair (css_text css) (hex2 path) (clean_css css is.css) (clean_hex2 path is.path)

names_are_clean : (names : List (List ℕ)) → All (λ name. is_name name ≡ true) names → All IsClean names
names_are_clean names are = λ k d within. clean_name _ (are k d within)

-- names, and `0` where there are none
pub names_clean : (names : List (List ℕ)) → IsNameSet names → IsClean (names_text names)
names_clean [] are = clean_plain (codes "0") refl refl
names_clean (name ∷ names) are = clean_list (name ∷ names) (names_are_clean (name ∷ names) are.each)

rec_clean : (rec : Bool) → All IsClean (rec_texts rec)
rec_clean true = All-cons IsClean (codes "REC") [] (clean_plain (codes "REC") refl refl) (All-nil IsClean)
rec_clean false = All-nil IsClean

pub partition_clean : (access candidates : List (List ℕ)) (rec : Bool) → IsNameSet access → IsNameSet candidates
    → IsClean (partition_text access candidates rec)
partition_clean access candidates rec first second =
    clean_list (names_text access ∷ names_text candidates ∷ rec_texts rec)
    (All-cons IsClean (names_text access) (names_text candidates ∷ rec_texts rec) (names_clean access first)
    (All-cons IsClean (names_text candidates) (rec_texts rec) (names_clean candidates second) (rec_clean rec)))

-- ---- CNTLUNIT

pub paths_clean : (paths : List CssPath) → All IsPath paths → IsClean (paths_text paths)
paths_clean paths are =
    clean_by_css (map path_item_text paths)
    (All-map (λ (i : CssText). IsClean i.text) path_item_text paths (λ k d within. clean_hex2 _ (are k d within).path))

pub ranges_clean : (ranges : List UnitRange) → All IsRange ranges → IsClean (ranges_text ranges)
ranges_clean ranges are =
    clean_list (map range_text ranges)
    (All-map IsClean range_text ranges (λ k d within. range_clean _ (are k d within)))
  where
    range_clean : (r : UnitRange) → IsRange r → IsClean (range_text r)
    range_clean r is =
        let most = is.most in
        clean_pair (hex2 r.start) (decimal r.count) (clean_hex2 r.start is.start) (clean_decimal r.count (omega arith))

link_clean : (l : Link) → IsWithinDigits l → IsClean (link_text l)
link_clean link.None within = clean_plain (codes "**") refl refl
link_clean (link.Short n) within = clean_hex2 n within
link_clean (link.Long n) within = clean_hex4 n within

pub links_clean : (links : List CssLink) → All IsLink links → IsClean (links_text links)
links_clean links are =
    clean_by_css (map link_item_text links)
    (All-map (λ (i : CssText). IsClean i.text) link_item_text links (λ k d within. link_clean _ (are k d within).link))

-- ---- IODEVICE

pub devices_clean : (first count : ℕ) → first < 65536 → count ≤ 65536
    → IsClean (devices_text (record { first = first; count = count }))
devices_clean first count small few =
    clean_pair (hex4 first) (decimal count) (clean_hex4 first small) (clean_decimal count (omega arith))

pub units_clean : (units : List ℕ) → All (λ unit. unit ≤ 65534) units → IsClean (units_text units)
units_clean units are =
    clean_list (map hex4 units)
    (All-map IsClean hex4 units (λ k d within. let small = are k d within in clean_hex4 _ (omega arith)))

-- ---- RESOURCE

pub images_clean : (images : List ImageRecord) → All IsImage images → IsClean (images_text images)
images_clean images are =
    clean_by_css (map image_text images)
    (All-map (λ (i : CssText). IsClean i.text) image_text images (λ k d within. image_clean _ (are k d within)))
  where
    image_clean : (i : ImageRecord) → IsImage i → IsClean (image_text i).text
    image_clean i is =
        let most = is.most in
        clean_pair i.name (hex1 i.mif) (clean_name i.name is.name) (clean_hex1 i.mif (omega arith))

-- a limit that is found, or nothing
limit_clean : (p : LimitRecord → Bool) (limits : List LimitRecord) → All IsLimit limits
    → IsClean (option_map_or (λ (l : LimitRecord). decimal l.limit) (find p limits) [])
limit_clean p [] are = clean_plain [] refl refl
limit_clean p (l ∷ limits) are = by (p l) (limit_clean p limits (All-tail IsLimit l limits are))
  where
    small : l.limit < 65536
    small = (All-head IsLimit l limits are).limit

    by : (here : Bool) → IsClean (option_map_or (λ (m : LimitRecord). decimal m.limit) (find p limits) [])
        → IsClean (option_map_or (λ (m : LimitRecord). decimal m.limit) (cond here (Some l) (find p limits)) [])
    by true others = clean_decimal l.limit (omega (arith, small))
    by false others = others

places_clean : (limits : List LimitRecord) → All IsLimit limits → (all : List ℕ)
    → AreClean (flat_map (places_in limits) all)
places_clean limits are [] = All-nil (λ (i : CssText). IsClean i.text)
places_clean limits are (css ∷ all) =
    All-append (λ (i : CssText). IsClean i.text) (places_in limits css) (flat_map (places_in limits) all)
    (All-map (λ (i : CssText). IsClean i.text) (place_text limits css) (range_with_len 0 (count_places limits css))
    (λ k d within. limit_clean _ limits are))
    (places_clean limits are all)

pub limits_clean : (limits : List LimitRecord) → All IsLimit limits → IsClean (limits_text limits)
limits_clean limits are = clean_by_css (flat_map (places_in limits) subsystems) (places_clean limits are subsystems)
