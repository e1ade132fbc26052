-- None of the units so far stands behind it again.
use Rattle.std.proofs.Common.{◌≡◌, drop}
use Rattle.iocm_model.specs.Rules.EachRule.{has_twice}
use Rattle.iocm_device_rules.proofs.devices.is_unit_twice.Given as goal

abbrev pub invariant-loop-i : goal.invariant-loop-i
invariant-loop-i l = has_twice (drop l.i l.units) ≡ has_twice l.units
