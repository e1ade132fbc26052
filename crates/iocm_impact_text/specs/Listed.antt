-- Words that are listed with a comma and a blank between them, and images as they are told in such lists.
-- Bytes by their codes: 32 is a blank, 44 a comma, 45 a hyphen, 46 a point.
use Rattle.std.specs.Prelude.{ℕ, ◌+◌, nat_le, Bool, ◌==◌, ◌&&◌, if◌then◌else◌, List, [], ◌∷◌, ◌++◌, map, length, codes}
use Rattle.std.specs.Fmt.{decimal}
use Rattle.std.specs.List.{flat_map}
use Rattle.iocm_types.specs.declared.image.Image.{Image}
use Rattle.iocm_types.specs.Print.{hex1}
use Rattle.iocm_impact_text.specs.declared.image_list.PlaceRange.{PlaceRange}
use Rattle.iocm_impact.specs.declared.named_image.NamedImage.{NamedImage}

abbrev pub behind_comma : List ℕ → List ℕ
behind_comma word = codes ", " ++ word

abbrev pub listed : List (List ℕ) → List ℕ
listed [] = []
listed (word ∷ words) = word ++ flat_map behind_comma words

-- ---- images

-- an image by its channel subsystem and its MIF image ID, 0.1, and with its name, 0.1 LPA
abbrev pub image_word : Image → List ℕ
image_word i = hex1 i.css ++ (46 ∷ hex1 i.mif)

abbrev pub named_word : NamedImage → List ℕ
named_word i = image_word i.image ++ (32 ∷ i.name)

-- places that follow each other in a channel subsystem are one range
abbrev pub place_alone : NamedImage → PlaceRange
place_alone i = record { first = i.image; last = i.image }

abbrev pub is_next_place : PlaceRange → NamedImage → Bool
is_next_place r i = i.image.css == r.last.css && i.image.mif == r.last.mif + 1

abbrev pub with_place : PlaceRange → NamedImage → PlaceRange
with_place r i = record { first = r.first; last = i.image }

abbrev pub ranges_from : PlaceRange → List NamedImage → List PlaceRange
ranges_from r [] = r ∷ []
ranges_from r (i ∷ is) =
    if is_next_place r i then ranges_from (with_place r i) is else r ∷ ranges_from (place_alone i) is

abbrev pub place_ranges : List NamedImage → List PlaceRange
place_ranges [] = []
place_ranges (i ∷ is) = ranges_from (place_alone i) is

-- 0.1-0.A, or 0.1 alone
abbrev pub place_word : PlaceRange → List ℕ
place_word r = if r.first.mif == r.last.mif then image_word r.first else image_word r.first ++ (45 ∷ image_word r.last)

-- so many images, 60 images (0.1-0.A, 1.1-1.A), or, of all there are, all 90 images
abbrev pub many_text : ℕ → List NamedImage → List ℕ
many_text all is =
    if length is == all then codes "all " ++ (decimal all ++ codes " images")
    else decimal (length is) ++ (codes " images (" ++ (listed (map place_word (place_ranges is)) ++ codes ")"))

-- images with their names, 0.1 LPA, 0.2 LPB; more than eight without
abbrev pub images_text : ℕ → List NamedImage → List ℕ
images_text all is = if nat_le (length is) 8 then listed (map named_word is) else many_text all is
