-- PARTITION of RESOURCE: the images of a machine.
-- IOCP User's Guide, RESOURCE statement; that (*,digit) gives no record is own.
use Rattle.std.specs.Prelude.{ℕ, ◌==◌, false, if◌then◌else◌, Option, None, Some, List, [], ◌∷◌, map, filter, codes}
use Rattle.std.specs.List.{filter_map}
use Rattle.std.specs.Option.{option_and_then, option_map}
use Rattle.std.specs.Str.{bytes_eq}
use Rattle.iocm_types.specs.Name.{name_of}
use Rattle.iocm_types.specs.Print.{hex1}
use Rattle.iocm_model.specs.Machine.Record.{ImageRecord}
use Rattle.iocm_operands.specs.declared.resource.ImagePlace.{ImagePlace}
use Rattle.iocm_values.specs.declared.texts.CssText.{CssText}
use Rattle.iocm_values.specs.CssLists.{by_css}
use Rattle.iocm_values.specs.Digits.{hex_of}
use Rattle.iocm_values.specs.NameSet.{name_set}
use Rattle.iocm_values.specs.Reading.{◌>>=◌}
use Rattle.iocm_values.specs.Texts.{list_text, by_css_text}
use Rattle.iocm_values.specs.Value.{Value, word, items}

-- a MIF image ID, one digit 1 to F
abbrev pub mif_of : List ℕ → Option ℕ
mif_of text = option_and_then (λ mif. if mif == 0 then None else Some mif) (hex_of 15 1 text)

-- the name of an image; * stands for none
abbrev pub image_name : List ℕ → Option (Option (List ℕ))
image_name text = if bytes_eq text (codes "*") then Some None else option_map Some (name_of text)

-- (NAME,digit), or (*,digit)
abbrev pub image_listed : ℕ → List Value → Option ImagePlace
image_listed css (word name ∷ word digit ∷ []) =
    mif_of digit >>= λ mif. image_name name >>= λ n. Some (record { css = css; mif = mif; name = n })
image_listed css _ = None

abbrev pub image_item : ℕ → Value → Option ImagePlace
image_item css v = items v >>= image_listed css

-- the image at a place, if it has a name
abbrev pub image_at : ImagePlace → Option ImageRecord
image_at p = option_map (λ name. record { css = p.css; mif = p.mif; name = name }) p.name

-- the images of PARTITION, a list by channel subsystem of such pairs
abbrev pub images_of : Value → Option (List ImageRecord)
images_of v = option_map (filter_map image_at) (by_css false image_item (λ (p : ImagePlace). p.css) v)

-- the name of an image, if it is one of the channel subsystem
abbrev pub name_in : ℕ → ImageRecord → Option (List ℕ)
name_in css i = if i.css == css then Some i.name else None

-- the names of the images of a channel subsystem
abbrev pub names_in : ℕ → List ImageRecord → List (List ℕ)
names_in css images = name_set (map (λ (i : ImageRecord). i.name) (filter (λ (i : ImageRecord). i.css == css) images))

-- an image as it is written, in the group of its channel subsystem: (LPA,1)
abbrev pub image_text : ImageRecord → CssText
image_text i = record { css = i.css; text = list_text (i.name ∷ hex1 i.mif ∷ []) }

-- images as they are written: ((CSS(0),(LPA,1),(LPB,2)))
abbrev pub images_text : List ImageRecord → List ℕ
images_text images = by_css_text (map image_text images)
