-- The keys so far, with those of the devices that are left, are all.
use Rattle.std.proofs.Common.{◌≡◌, ◌||◌, drop}
use Rattle.iocm_filter.specs.Sieves.{has_key}
use Rattle.iocm_model.specs.Machine.Configuration.{lookup_of}
use Rattle.iocm_table.specs.Slots.{rows}
use Rattle.iocm_types.specs.declared.key.Key.{Key}
use Rattle.iocm_types.specs.Key.{key_cmp}
use Rattle.iocm_plan_filter.specs.Connected.{is_among, ways_to}
use Rattle.iocm_plan_filter.proofs.ways.ways_to.Given as goal

abbrev pub invariant-loop-device : goal.invariant-loop-device
invariant-loop-device l = let c = lookup_of l.old.records in let d = lookup_of l.new.records in
    (k : Key) → (has_key (rows key_cmp l.keys) k || is_among k (ways_to c d (drop l.device-index l.devices)))
    ≡ is_among k (ways_to c d l.devices)
