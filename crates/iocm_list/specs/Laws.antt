-- What holds of ranges of devices, and of the rows where nothing is asked for.
use Rattle.std.specs.Prelude.{◌≡◌, ℕ, ◌+◌, ◌-◌, ◌&&◌, Bool, true, not, List, [], ◌∷◌, map}
use Rattle.std.specs.List.{flat_map, range_with_len}
use Rattle.iocm_model.specs.Machine.Configuration.{Configuration}
use Rattle.iocm_filter.specs.Wanted.{nothing}
use Rattle.iocm_words.specs.declared.ranges.DeviceNumbers.{DeviceNumbers}
use Rattle.iocm_sight.specs.declared.devices.DeviceKey.{DeviceKey}
use Rattle.iocm_sight.specs.Connected.{paths_of, units_of}
use Rattle.iocm_list.specs.Joined.{follows, joined_ranges}
use Rattle.iocm_list.specs.PathRows.{path_row, path_rows}
use Rattle.iocm_list.specs.UnitRows.{unit_row, unit_rows}

-- the devices of a range, and the first of them
abbrev pub device_in : ℕ → ℕ → DeviceKey
device_in set number = record { set = set; number = number }

abbrev pub devices_in : DeviceNumbers → List DeviceKey
devices_in r = map (device_in r.set) (range_with_len r.first (r.last + 1 - r.first))

abbrev pub first_in : DeviceNumbers → DeviceKey
first_in r = device_in r.set r.first

-- no range begins with the device that follows the range before it
abbrev pub are_apart_behind : DeviceNumbers → List DeviceNumbers → Bool
are_apart_behind r [] = true
are_apart_behind r (s ∷ ss) = not (follows r (first_in s)) && are_apart_behind s ss

abbrev pub are_apart : List DeviceNumbers → Bool
are_apart [] = true
are_apart (r ∷ rs) = are_apart_behind r rs

-- ranges are those of the devices, in their order, and as few as can be
abbrev pub RangesAreTheDevices : Type 0
RangesAreTheDevices = (devices : List DeviceKey) → flat_map devices_in (joined_ranges devices) ≡ devices

abbrev pub RangesAreApart : Type 0
RangesAreApart = (devices : List DeviceKey) → are_apart (joined_ranges devices) ≡ true

-- where nothing is asked for but how many paths are online, each path and each control unit has a row
abbrev pub AllPathsAreListed : Type 0
AllPathsAreListed = (c : Configuration) (online : List ℕ)
    → path_rows (record nothing { online = online }) c ≡ map (path_row c) (paths_of c)

abbrev pub AllUnitsAreListed : Type 0
AllUnitsAreListed = (c : Configuration) (online : List ℕ)
    → unit_rows (record nothing { online = online }) c ≡ map (unit_row c) (units_of c)
