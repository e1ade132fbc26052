-- The devices that are gathered from records.
use Rattle.std.proofs.Common.{List, map}
use Rattle.std.specs.List.{filter_map}
use Rattle.iocm_types.specs.declared.key.Key.{Key}
use Rattle.iocm_model.specs.Machine.Record.{Rec}
use Rattle.iocm_model.specs.Machine.Configuration.{Lookup, as_device}
use Rattle.iocm_numbers.specs.declared.device_reach.DeviceReach.{DeviceReach}
use Rattle.iocm_numbers.specs.Opening.{reach_of}

-- the devices among some entries, with the channel subsystems that reach them
abbrev pub gathered_from : Lookup → List (Key × Rec) → List DeviceReach
gathered_from c es = map (reach_of c) (filter_map as_device (map (λ (e : Key × Rec). e.1) es))
