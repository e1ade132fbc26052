-- The unit is none of those so far.
use Rattle.std.proofs.Common.{◌≡◌, nat_eq, drop}
use Rattle.std.specs.List.{list_any}
use Rattle.iocm_device_rules.proofs.devices.has_unit.Given as goal

abbrev pub invariant-loop-unit : goal.invariant-loop-unit
invariant-loop-unit l = list_any (nat_eq l.number) (drop l.unit-index l.units) ≡ list_any (nat_eq l.number) l.units
