-- The addresses so far, with those of the devices that are left, are those of all records.
use Rattle.std.proofs.Common.{◌≡◌, ◌++◌}
use Rattle.std.specs.List.{flat_map}
use Rattle.iocm_model.specs.Machine.Configuration.{records_of}
use Rattle.iocm_device_rules.specs.OnUnits.{unit_numbers}
use Rattle.iocm_device_rules.proofs.addresses_at_opening.list_numbers.Given as goal

abbrev pub invariant-loop-entry : goal.invariant-loop-entry
invariant-loop-entry g l =
    l.listed.items ++ flat_map unit_numbers l.entry-iterator ≡ flat_map unit_numbers (records_of l.config.records)
