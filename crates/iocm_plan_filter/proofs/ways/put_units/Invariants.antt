-- The keys so far, with those of the control units that are left, are those before and all.
use Rattle.std.proofs.Common.{◌≡◌, ◌++◌, drop, map}
use Rattle.iocm_types.specs.declared.key.Key.TheVariants as key
use Rattle.iocm_plan_filter.proofs.ways.put_units.Given as goal

abbrev pub invariant-loop-unit : goal.invariant-loop-unit
invariant-loop-unit l = l.keys.items ++ map key.Unit (drop l.unit-index l.units)
    ≡ l.initial.keys.items ++ map key.Unit l.units
