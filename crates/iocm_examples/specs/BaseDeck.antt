-- The records of the example deck, and of three variants of it: two images, LPA and LPB, share the
-- paths 50 and 51 of one control unit with four devices; LPB is offline on 51, where it is a
-- candidate. And the keys, places and subchannels of the deck.
use Rattle.std.specs.Prelude.{ℕ, ◌+◌, List, [], ◌∷◌, map, None, codes, Option}
use Rattle.iocm_types.specs.declared.css_path.CssPath.{CssPath}
use Rattle.iocm_types.specs.declared.path_kind.PathKind.TheVariants.{Shared}
use Rattle.iocm_types.specs.declared.key.Key.{Key}
use Rattle.iocm_types.specs.declared.key.Key.TheVariants.{Device}
use Rattle.iocm_types.specs.declared.place.Place.{Place}
use Rattle.iocm_types.specs.declared.sub_id.SubId.{SubId}
use Rattle.iocm_types.specs.declared.key.Key.TheVariants as key
use Rattle.iocm_model.specs.Machine.Record.{Rec, DeviceRecord, image, path, unit, device, online}

abbrev pub lpa : List ℕ
lpa = codes "LPA"

abbrev pub lpb : List ℕ
lpb = codes "LPB"

-- a path of channel subsystem 0
abbrev pub path_record : ℕ → List (List ℕ) → List (List ℕ) → Rec
path_record number access candidates =
    path (record { css = 0; number = number; kind = Shared; access = access; candidates = candidates; carried = [] })

-- a path of channel subsystem 0 in a unit's list
abbrev pub css_path : ℕ → CssPath
css_path number = record { css = 0; path = number }

-- one of the four devices, which have the last digits of their numbers as unit addresses
abbrev pub device_record : ℕ → DeviceRecord
device_record place = record {
  set = 0;
  number = 0x1000 + place;
  units = 0x1000 ∷ [];
  unit_address = place;
  candidates = None;
  carried = [];
}

abbrev pub online_record : ℕ → List ℕ → Rec
online_record number name = online (record { css = 0; path = number; name = name })

-- the deck with these candidates of path 51 and these paths of the unit, in the order of keys
abbrev pub deck_with : List (List ℕ) → List ℕ → List Rec
deck_with candidates paths =
    image (record { css = 0; mif = 1; name = lpa }) ∷ image (record { css = 0; mif = 2; name = lpb })
    ∷ path_record 0x50 (lpa ∷ lpb ∷ []) (lpa ∷ lpb ∷ []) ∷ path_record 0x51 (lpa ∷ []) candidates
    ∷ unit (record {
      number = 0x1000;
      paths = map css_path paths;
      ranges = record { start = 0; count = 16 } ∷ [];
      links = [];
      cuadd = None;
      carried = [];
    })
    ∷ device (device_record 0) ∷ device (device_record 1) ∷ device (device_record 2) ∷ device (device_record 3)
    ∷ online_record 0x50 lpa ∷ online_record 0x50 lpb ∷ online_record 0x51 lpa ∷ []

-- the example deck; with LPA alone as a candidate of path 51; with the unit's paths the other way
-- round
abbrev pub base : List Rec
base = deck_with (lpa ∷ lpb ∷ []) (0x50 ∷ 0x51 ∷ [])

abbrev pub base_without_candidate : List Rec
base_without_candidate = deck_with (lpa ∷ []) (0x50 ∷ 0x51 ∷ [])

abbrev pub base_turned : List Rec
base_turned = deck_with (lpa ∷ lpb ∷ []) (0x51 ∷ 0x50 ∷ [])

-- a path of both images, and a unit with the unit addresses 00 to 0F on these paths
abbrev pub shared_path : ℕ → Rec
shared_path number = path_record number (lpa ∷ lpb ∷ []) (lpa ∷ lpb ∷ [])

abbrev pub unit_on : ℕ → List ℕ → Option ℕ → Rec
unit_on number paths cuadd = unit (record {
  number = number;
  paths = map css_path paths;
  ranges = record { start = 0; count = 16 } ∷ [];
  links = [];
  cuadd = cuadd;
  carried = [];
})

-- a device of set 0 on unit 1000 with this unit address
abbrev pub device_on_1000 : ℕ → ℕ → Rec
device_on_1000 number address =
    device (record {
      set = 0;
      number = number;
      units = 0x1000 ∷ [];
      unit_address = address;
      candidates = None;
      carried = [];
    })

-- the key of a device of set 0
abbrev pub device_key : ℕ → Key
device_key number = key.Device 0 number

-- a subchannel of set 0 of an image of channel subsystem 0: LPA is image 1 there, and LPB image 2
abbrev pub subchannel : ℕ → ℕ → SubId
subchannel mif number = record { image = record { css = 0; mif = mif }; set = 0; number = number }

-- a place of channel subsystem 0 and set 0, with the number there
abbrev pub place_of : ℕ → ℕ → Place × ℕ
place_of n number = (record { css = 0; set = 0; device = n }, number)
