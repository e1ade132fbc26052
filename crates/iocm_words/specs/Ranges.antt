-- Ranges as words, and the subchannel numbers of sets.
-- Bytes by their codes: 45 is a hyphen, 46 a point, 47 a slash, 58 a colon.
use Rattle.std.specs.Prelude.{ℕ, ◌+◌, ◌-◌, ◌==◌, if◌then◌else◌, List, ◌∷◌, ◌++◌}
use Rattle.std.specs.Fmt.{decimal}
use Rattle.iocm_types.specs.declared.unit_range.UnitRange.{UnitRange}
use Rattle.iocm_types.specs.Print.{hex1, hex2, hex4}
use Rattle.iocm_words.specs.declared.ranges.DeviceNumbers.{DeviceNumbers}
use Rattle.iocm_words.specs.declared.ranges.SetNumbers.{SetNumbers}

-- numbers from the first to the last, 00-3F, or one alone, FE
abbrev pub from_to : (ℕ → List ℕ) → ℕ → ℕ → List ℕ
from_to hex first last = if first == last then hex first else hex first ++ (45 ∷ hex last)

-- a range of unit addresses
abbrev pub range_word : UnitRange → List ℕ
range_word r = from_to hex2 r.start (r.start + r.count - 1)

-- devices of a subchannel set, 1.20C0-20FF, or of set 0, 2000-203F
abbrev pub devices_word : DeviceNumbers → List ℕ
devices_word d =
    if d.set == 0 then from_to hex4 d.first d.last else hex1 d.set ++ (46 ∷ from_to hex4 d.first d.last)

-- the subchannel numbers of a set that are taken, and how many there may be: 0:128/65280
abbrev pub set_word : SetNumbers → List ℕ
set_word n = hex1 n.set ++ (58 ∷ (decimal n.used ++ (47 ∷ decimal n.limit)))
