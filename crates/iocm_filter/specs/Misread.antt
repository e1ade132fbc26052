-- A word that has none of the forms of its option, and what is said of it.
use Rattle.std.specs.Prelude.{List, ℕ, ◌++◌, Option, codes, find, is_none}
use Rattle.std.specs.Option.{option_map, option_or}
use Rattle.iocm_filter.specs.Words.{Asking, image_word, device_word, unit_word, path_word, online_word}
use Rattle.iocm_filter.specs.declared.misread.FilterOption.{FilterOption}
use Rattle.iocm_filter.specs.declared.misread.FilterOption.TheVariants.{Image, Device, Unit, Path, PathsOnline}
use Rattle.iocm_filter.specs.declared.misread.Misread.{Misread}

-- the first word of an option that asks for nothing
abbrev pub first_misread : {A : Type 0} → FilterOption → (List ℕ → Option A) → List (List ℕ)
    → Option (FilterOption × List ℕ)
first_misread option read words = option_map (λ w. (option, w)) (find (λ w. is_none (read w)) words)

-- the first of all, with its option
abbrev pub misread_of : Asking → Option (FilterOption × List ℕ)
misread_of a =
    option_or (option_or (option_or (option_or (first_misread Image image_word a.images)
    (first_misread Device device_word a.devices))
    (first_misread Unit unit_word a.units))
    (first_misread Path path_word a.paths))
    (first_misread PathsOnline online_word a.online)

abbrev pub seen_misread : Misread → FilterOption × List ℕ
seen_misread m = (m.option, m.value.now)

-- what is said of it
abbrev pub misread_text : FilterOption → List ℕ → List ℕ
misread_text Image value = codes "--image " ++ (value
    ++ codes ": not an image: a name, as LPB, or a place, as 0.2 (channel subsystem 0, MIF image ID 2)")
misread_text Device value = codes "--device " ++ (value ++ codes
    ": not a device: 1003 or 1000-100F of subchannel set 0, or 1.1000-10FF of subchannel set 1")
misread_text Unit value = codes "--unit " ++ (value
    ++ codes ": not a control unit: 1000, one to four hexadecimal digits up to FFFE")
misread_text Path value = codes "--path " ++ (value
    ++ codes ": not a path: 0.50 of channel subsystem 0, or 50 of every one")
misread_text PathsOnline value = codes "--paths-online " ++ (value ++ codes ": not a number of paths: 0 to 8")
