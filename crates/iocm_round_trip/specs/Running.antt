-- Runs of devices: what each stands for, and that they are the devices, in as few runs as can be.
use Rattle.std.specs.Prelude.{◌≡◌, ◌≤◌, ℕ, ◌+◌, false, List, [], ◌∷◌, map, All}
use Rattle.std.specs.List.{flat_map, range_with_len}
use Rattle.iocm_model.specs.Machine.Record.{DeviceRecord}
use Rattle.iocm_deck_writer.specs.Device.{Run, runs, continues}
use Rattle.iocm_round_trip.specs.Given.{IsGivenDevice}

-- the device at a place of a run: its number and its unit address are those of the first and the
-- place
abbrev pub device_at : DeviceRecord → ℕ → DeviceRecord
device_at first place = record first {
  number = first.number + place;
  unit_address = first.unit_address + place;
}

-- the devices of a run
abbrev pub run_devices : Run → List DeviceRecord
run_devices r = map (device_at r.first) (range_with_len 0 r.count)

-- a run of devices that decks give: none is past the last number or the last unit address
pub record IsGivenRun (r : Run) : Type 0 where
  pub first : IsGivenDevice r.first
  pub some : 1 ≤ r.count
  pub numbers : r.first.number + r.count ≤ 65536
  pub addresses : r.first.unit_address + r.count ≤ 256

-- the runs stand for the devices, in their order
abbrev pub AreRunsOfDevices : Type 0
AreRunsOfDevices = (devices : List DeviceRecord) → flat_map run_devices (runs devices) ≡ devices

-- no run goes on in the first device of the next one
abbrev pub AreApart : List Run → Type 0
AreApart [] = Unit {0}
AreApart (r ∷ []) = Unit {0}
AreApart (r ∷ s ∷ rs) = (continues r s.first ≡ false) × AreApart (s ∷ rs)

-- so no two of them could be written as one
abbrev pub AreMaximal : Type 0
AreMaximal = (devices : List DeviceRecord) → AreApart (runs devices)

-- devices of decks stand in runs of such
abbrev pub AreGivenRuns : Type 0
AreGivenRuns = (devices : List DeviceRecord) → All IsGivenDevice devices → All IsGivenRun (runs devices)
