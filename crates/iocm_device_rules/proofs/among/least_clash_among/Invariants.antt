-- The least so far, with what the keys that are left give, is the least of all.
use Rattle.std.proofs.Common.{◌≡◌, None, drop}
use Rattle.iocm_types.specs.Naming.{naming_cmp}
use Rattle.iocm_table.specs.Slots.{rows}
use Rattle.iocm_model.specs.Machine.Configuration.{lookup_of}
use Rattle.iocm_lookup.specs.Among.{least_of}
use Rattle.iocm_device_rules.specs.Addresses.{clash_at}
use Rattle.iocm_device_rules.proofs.among.least_clash_among.Given as goal

abbrev pub invariant-loop-key : goal.invariant-loop-key
invariant-loop-key g l = let gives = clash_at (lookup_of l.config.records) (rows naming_cmp l.index) in
    least_of gives l.least (drop l.key-index l.keys) ≡ least_of gives None l.keys
