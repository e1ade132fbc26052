-- The words in which subchannels are asked for, in the forms in which keys are printed.
use Rattle.std.specs.Prelude.{ℕ, Bool, ◌+◌, ◌==◌, nat_le, if◌then◌else◌, Option, None, Some}
use Rattle.std.specs.Prelude.{List, [], ◌∷◌, map, take, drop}
use Rattle.std.specs.List.{position}
use Rattle.std.specs.Option.{option_map, option_or}
use Rattle.iocm_types.specs.Name.{name_of}
use Rattle.iocm_types.specs.declared.image.Image.{Image}
use Rattle.iocm_values.specs.Digits.{decimal_of, hex_of}
use Rattle.iocm_values.specs.Numbers as numbers
use Rattle.iocm_values.specs.Reading.{◌>>=◌, every}
use Rattle.iocm_filter.specs.Wanted.{Wanted}
use Rattle.iocm_filter.specs.declared.meant.ImageWord.{ImageWord}
use Rattle.iocm_filter.specs.declared.meant.ImageWord.TheVariants.{Place, Named}
use Rattle.iocm_filter.specs.declared.meant.DeviceRange.{DeviceRange}
use Rattle.iocm_filter.specs.declared.meant.PathWord.{PathWord}
use Rattle.iocm_filter.specs.declared.reading.FilterWords.{FilterWords}

-- the byte that a point follows, and what follows the point
abbrev pub before_point : List ℕ → Option (ℕ × List ℕ)
before_point (byte ∷ point ∷ rest) = if point == 46 then Some (byte, rest) else None
before_point _ = None

-- a channel subsystem, 0 to 5; a MIF image ID, 1 to F; a subchannel set, 0 to 3: one digit each
abbrev pub css_digit : ℕ → Option ℕ
css_digit digit = decimal_of 5 (digit ∷ [])

abbrev pub mif_digit : ℕ → Option ℕ
mif_digit digit = hex_of 15 1 (digit ∷ []) >>= λ n. if n == 0 then None else Some n

abbrev pub set_digit : ℕ → Option ℕ
set_digit digit = decimal_of 3 (digit ∷ [])

-- an image by its place: 0.2
abbrev pub image_place : List ℕ → Option Image
image_place (c ∷ point ∷ m ∷ []) =
    css_digit c >>= λ css. mif_digit m >>= λ mif.
    if point == 46 then Some (record { css = css; mif = mif }) else None
image_place _ = None

-- an image by its name, or by its place
abbrev pub image_word : List ℕ → Option ImageWord
image_word text =
    option_or (option_map Named (name_of text)) (option_map Place (image_place text))

-- a device number: one to four hexadecimal digits
abbrev pub device_number : List ℕ → Option ℕ
device_number text = hex_of 65535 4 text

abbrev pub is_hyphen : ℕ → Bool
is_hyphen b = b == 45

-- device numbers of a subchannel set: 1003, or from the first to the last, which isn't less: 1000-100F
abbrev pub numbers_round : Option ℕ → ℕ → List ℕ → Option DeviceRange
numbers_round None set text = device_number text >>= λ n. Some (record { set = set; first = n; last = n })
numbers_round (Some place) set text =
    device_number (take place text) >>= λ first. device_number (drop (place + 1) text) >>= λ last.
    if nat_le first last then Some (record { set = set; first = first; last = last }) else None

abbrev pub device_numbers : ℕ → List ℕ → Option DeviceRange
device_numbers set text = numbers_round (position is_hyphen text) set text

-- with the subchannel set and a point before them, 1.1000-10FF, or of set 0
abbrev pub device_numbers_in : Option (ℕ × List ℕ) → List ℕ → Option DeviceRange
device_numbers_in None text = device_numbers 0 text
device_numbers_in (Some p) text = set_digit p.0 >>= λ set. device_numbers set p.1

abbrev pub device_word : List ℕ → Option DeviceRange
device_word text = device_numbers_in (before_point text) text

-- a control unit: one to four hexadecimal digits, up to FFFE
abbrev pub unit_word : List ℕ → Option ℕ
unit_word text = numbers.unit_number text

-- a path of a channel subsystem, 0.50, or of each, 50
abbrev pub path_in : Option (ℕ × List ℕ) → List ℕ → Option PathWord
path_in None text = numbers.path_number text >>= λ path. Some (record { css = None; path = path })
path_in (Some p) text =
    css_digit p.0 >>= λ css. numbers.path_number p.1 >>= λ path. Some (record { css = Some css; path = path })

abbrev pub path_word : List ℕ → Option PathWord
path_word text = path_in (before_point text) text

-- how many paths, of eight, are online at most
abbrev pub online_word : List ℕ → Option ℕ
online_word text = decimal_of 8 text

-- the words of each kind: images, devices, control units, paths, and how many paths are online at most
pub record Asking : Type 0 where
  pub images : List (List ℕ)
  pub devices : List (List ℕ)
  pub units : List (List ℕ)
  pub paths : List (List ℕ)
  pub online : List (List ℕ)

abbrev pub words_of : FilterWords → Asking
words_of w = record {
  images = map (λ t. t.now) w.images.now;
  devices = map (λ t. t.now) w.devices.now;
  units = map (λ t. t.now) w.units.now;
  paths = map (λ t. t.now) w.paths.now;
  online = map (λ t. t.now) w.online.now;
}

-- what they ask for, if all have their form
abbrev pub filters_of : Asking → Option Wanted
filters_of a =
    every image_word a.images >>= λ images.
    every device_word a.devices >>= λ devices.
    every unit_word a.units >>= λ units.
    every path_word a.paths >>= λ paths.
    every online_word a.online >>= λ online.
    Some (record { images = images; devices = devices; units = units; paths = paths; online = online })
