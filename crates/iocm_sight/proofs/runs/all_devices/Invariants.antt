-- The devices so far, with those of the records that are left, are all.
use Rattle.std.proofs.Common.{◌≡◌, ◌++◌, map}
use Rattle.std.specs.List.{filter_map}
use Rattle.iocm_model.specs.Machine.Configuration.{as_device, devices_of}
use Rattle.iocm_record.specs.Meaning.{device_of}
use Rattle.iocm_sight.proofs.runs.all_devices.Given as goal

abbrev pub invariant-loop-entry : goal.invariant-loop-entry
invariant-loop-entry l =
    map (λ d. device_of d.now) l.devices.items ++ filter_map as_device (map (λ e. e.1) l.entry-iterator)
    ≡ devices_of l.config.records
