-- Devices as ranges, in which those are joined whose numbers follow each other.
use Rattle.std.specs.Prelude.{◌+◌, ◌==◌, ◌&&◌, Bool, if◌then◌else◌, List, [], ◌∷◌}
use Rattle.iocm_words.specs.declared.ranges.DeviceNumbers.{DeviceNumbers}
use Rattle.iocm_sight.specs.declared.devices.DeviceKey.{DeviceKey}

-- a device alone, and a range that ends with another device
abbrev pub alone : DeviceKey → DeviceNumbers
alone d = record { set = d.set; first = d.number; last = d.number }

abbrev pub with_last : DeviceNumbers → DeviceKey → DeviceNumbers
with_last r d = record { set = r.set; first = r.first; last = d.number }

-- a device is the next after a range
abbrev pub follows : DeviceNumbers → DeviceKey → Bool
follows r d = r.set == d.set && d.number == r.last + 1

-- a range and the devices behind it: one that follows makes it longer, another one begins a range
abbrev pub joined_from : DeviceNumbers → List DeviceKey → List DeviceNumbers
joined_from r [] = r ∷ []
joined_from r (d ∷ ds) = if follows r d then joined_from (with_last r d) ds else r ∷ joined_from (alone d) ds

-- the ranges of devices in the order of their keys
abbrev pub joined_ranges : List DeviceKey → List DeviceNumbers
joined_ranges [] = []
joined_ranges (d ∷ ds) = joined_from (alone d) ds
