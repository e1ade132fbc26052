-- The devices so far, with those of the records that are left, are all.
use Rattle.std.proofs.Common.{◌≡◌, ◌++◌, filter, map}
use Rattle.std.specs.List.{filter_map}
use Rattle.iocm_model.specs.Machine.Configuration.{as_device, devices_of}
use Rattle.iocm_record.specs.Meaning.{device_of}
use Rattle.iocm_sight.specs.WantedRows.{wants_number}
use Rattle.iocm_sight.proofs.runs.devices_asked.Given as goal

abbrev pub invariant-loop-entry : goal.invariant-loop-entry
invariant-loop-entry l = map (λ d. device_of d.now) l.devices.items
    ++ filter (wants_number l.filters) (filter_map as_device (map (λ e. e.1) l.entry-iterator))
    ≡ filter (wants_number l.filters) (devices_of l.config.records)
