-- The numbers at opening, as they are given out: the devices, with the channel subsystems that
-- reach them, and the rows of numbers.
use Rattle.std.specs.Prelude.{ℕ, ◌+◌, ◌≤◌, ◌==◌, ◌&&◌, Bool, false, List, [], ◌∷◌, map, filter, not, slice_index_or}
use Rattle.std.specs.List.{flat_map}
use Rattle.iocm_types.specs.declared.place.Place.{Place}
use Rattle.iocm_model.specs.Machine.Record.{DeviceRecord}
use Rattle.iocm_model.specs.Machine.Configuration.{Configuration, Lookup}
use Rattle.iocm_model.specs.Machine.Numbering.{subsystems, sets, is_empty, reached_devices, numbers_from}
use Rattle.iocm_model.specs.Machine.PathList.{path_list}
use Rattle.iocm_numbers.specs.declared.device_reach.DeviceReach.{DeviceReach}

-- for each channel subsystem, whether it reaches devices on these units
abbrev pub reach_by : Lookup → List ℕ → List Bool
reach_by c units = map (λ css. not (is_empty (path_list c css units))) subsystems

-- a device's set and number, and for each channel subsystem whether it reaches the device
abbrev pub reach_of : Lookup → DeviceRecord → DeviceReach
reach_of c d = record { set = d.set; number = d.number; reached = reach_by c d.units }

-- whether a device is of a set, and a channel subsystem reaches it
abbrev pub is_numbered : ℕ → ℕ → DeviceReach → Bool
is_numbered css set d = d.set == set && slice_index_or d.reached css false

-- the numbers of the devices of a set that a channel subsystem reaches
abbrev pub numbered : ℕ → ℕ → List DeviceReach → List ℕ
numbered css set ds = map (λ (d : DeviceReach). d.number) (filter (is_numbered css set) ds)

-- device numbers that rise, and begin no lower than at this one
abbrev pub RiseFrom : ℕ → List ℕ → Type 0
RiseFrom n [] = Unit {0}
RiseFrom n (d ∷ ds) = (n ≤ d) × RiseFrom (d + 1) ds

-- the rows of a channel subsystem: of each set in turn, its devices with 0, 1, 2, ..
abbrev pub rows_of : ℕ → List DeviceReach → List (Place × ℕ)
rows_of css ds = flat_map (λ set. numbers_from css set 0 (numbered css set ds)) sets

-- the rows of all channel subsystems, those that are reached at opening
abbrev pub rows_at_opening : Configuration → List (Place × ℕ)
rows_at_opening c =
    flat_map (λ css. flat_map (λ set. numbers_from css set 0 (reached_devices c css set)) sets) subsystems
