-- The values of IODEVICE: addresses, units, the first unit address, subchannel set, candidates.
-- IOCP User's Guide, IODEVICE statement; the forms and the most devices of a statement are own.
use Rattle.std.specs.Prelude.{ℕ, ◌+◌, ◌||◌, nat_le, Bool, is_some, if◌then◌else◌}
use Rattle.std.specs.Prelude.{Option, None, Some, List, [], ◌∷◌, map, codes}
use Rattle.std.specs.Fmt.{decimal}
use Rattle.std.specs.List.{filter_map}
use Rattle.std.specs.Option.{option_map}
use Rattle.std.specs.Str.{bytes_eq}
use Rattle.iocm_types.specs.Name.{name_of}
use Rattle.iocm_types.specs.Print.{hex4}
use Rattle.iocm_operands.specs.declared.device.Devices.{Devices}
use Rattle.iocm_values.specs.CssLists.{css_number}
use Rattle.iocm_values.specs.Digits.{hex_of, decimal_of}
use Rattle.iocm_values.specs.NameSet.{name_set}
use Rattle.iocm_values.specs.Numbers.{unit_number, count_of}
use Rattle.iocm_values.specs.Reading.{◌>>=◌, every}
use Rattle.iocm_values.specs.Texts.{list_text}
use Rattle.iocm_values.specs.Value.{Value, word, list, items_or_one, word_text}
use Rattle.iocm_values.specs.Words.{words}

-- no device number is past FFFF
abbrev pub devices_within : ℕ → ℕ → Option Devices
devices_within first count =
    if nat_le (first + count) 65536 then Some (record { first = first; count = count }) else None

-- (number) with one device, or (number,count) with a count of 1 to 4096
abbrev pub devices_listed : List Value → Option Devices
devices_listed (word number ∷ []) = hex_of 65535 4 number >>= λ n. devices_within n 1
devices_listed (word number ∷ word count ∷ []) = hex_of 65535 4 number >>= λ n. count_of 4096 count >>= devices_within n
devices_listed _ = None

-- the same, or number alone
abbrev pub devices_of : Value → Option Devices
devices_of v = items_or_one v >>= devices_listed

abbrev pub unit_item : Value → Option ℕ
unit_item v = word_text v >>= unit_number

-- a unit, or a list of units in their order
abbrev pub units_of : Value → Option (List ℕ)
units_of v = items_or_one v >>= every unit_item

-- the unit address of the first of so many devices; the last one is not past FF
abbrev pub first_address : ℕ → Value → Option ℕ
first_address count v =
    word_text v >>= hex_of 255 2 >>= λ first. if nat_le (first + count) 256 then Some first else None

-- a subchannel set, 0 to 3 in decimal
abbrev pub set_of : Value → Option ℕ
set_of v = word_text v >>= decimal_of 3

-- `0` and CSS(n) stand for no name
abbrev pub is_no_name : List ℕ → Bool
is_no_name text = bytes_eq text (codes "0") || is_some (css_number text)

-- a word of a list of candidates: a name, or none
abbrev pub candidate_word : List ℕ → Option (Option (List ℕ))
candidate_word text = if is_no_name text then Some None else option_map Some (name_of text)

-- names, lists of them and CSS(n), nested at will
abbrev pub candidates_listed : List ℕ → Option (List (List ℕ))
candidates_listed inner =
    option_map (λ names. name_set (filter_map (λ n. n) names)) (every candidate_word (words inner))

-- a name alone, or `0` for none
abbrev pub candidate_alone : List ℕ → Option (List (List ℕ))
candidate_alone text = if bytes_eq text (codes "0") then Some [] else option_map (λ name. name ∷ []) (name_of text)

-- one of both
abbrev pub candidates_of : Value → Option (List (List ℕ))
candidates_of (word text) = candidate_alone text
candidates_of (list inner) = candidates_listed inner

-- devices as they are written: (1000,4)
abbrev pub devices_text : Devices → List ℕ
devices_text d = list_text (hex4 d.first ∷ decimal d.count ∷ [])

-- units as they are written: (1000,1001)
abbrev pub units_text : List ℕ → List ℕ
units_text units = list_text (map hex4 units)
