-- The least so far, with what the units that are left give, is the least of all.
use Rattle.std.proofs.Common.{◌≡◌, None, drop}
use Rattle.iocm_types.specs.Naming.{naming_cmp}
use Rattle.iocm_table.specs.Slots.{rows}
use Rattle.iocm_model.specs.Machine.Configuration.{lookup_of}
use Rattle.iocm_lookup.specs.Among.{least_of}
use Rattle.iocm_device_rules.specs.Addresses.{clash_beside}
use Rattle.iocm_device_rules.proofs.among.clash_on_units.Given as goal

abbrev pub invariant-loop-unit : goal.invariant-loop-unit
invariant-loop-unit g l = let gives = clash_beside (lookup_of l.config.records) (rows naming_cmp l.index) l.address in
    least_of gives l.least (drop l.unit-index l.units) ≡ least_of gives None l.units
