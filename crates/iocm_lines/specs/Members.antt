-- What the members of lines are.
-- Bytes by their codes: 46 is a point.
use Rattle.std.specs.Prelude.{ℕ, ◌-◌, ◌^◌, true, false, List, [], ◌∷◌, ◌++◌, map, Option, None, Some}
use Rattle.std.specs.Fmt.{digits, format_spec, padded_integral}
use Rattle.iocm_types.specs.declared.image.Image.{Image}
use Rattle.iocm_types.specs.declared.sub_id.SubId.{SubId}
use Rattle.iocm_types.specs.Print.{hex1, hex2, hex4}
use Rattle.serde_json.specs.Data.{Data, number, unsigned, string, array, object, Items, no_items, item, Members}
use Rattle.serde_json.specs.Data.{no_members, member}

-- an object of these members, as they stand
abbrev pub members : List (List ℕ × Data) → Members
members [] = no_members
members ((name, value) ∷ more) = member name value (members more)

abbrev pub object_of : List (List ℕ × Data) → Data
object_of named = object (members named)

-- a member with more after it, if its value is there
abbrev pub if_there : List ℕ → Option Data → List (List ℕ × Data) → List (List ℕ × Data)
if_there name None more = more
if_there name (Some value) more = (name, value) ∷ more

-- a number
abbrev pub count : ℕ → Data
count n = number (unsigned n)

-- a list of texts
abbrev pub texts : List (List ℕ) → Items
texts [] = no_items
texts (text ∷ more) = item (string text) (texts more)

-- a list of channel paths, two digits each
abbrev pub path_list : List ℕ → Data
path_list paths = array (texts (map hex2 paths))

-- a number in hexadecimal with zeros in front, at least eight digits
abbrev pub hex8 : ℕ → List ℕ
hex8 n = padded_integral (format_spec 32 0 4 8 (2 ^ 64 - 1)) false [] (digits 16 true n)

-- an image: channel subsystem and MIF image ID
abbrev pub image_name : Image → List ℕ
image_name i = hex1 i.css ++ (46 ∷ hex1 i.mif)

-- a subchannel: channel subsystem, MIF image ID, set and number
abbrev pub subchannel_name : SubId → List ℕ
subchannel_name s =
    hex1 s.image.css ++ (46 ∷ (hex1 s.image.mif ++ (46 ∷ (hex1 s.set ++ (46 ∷ hex4 s.number)))))
