-- None of the ranges so far has it.
use Rattle.std.proofs.Common.{◌≡◌, drop}
use Rattle.std.specs.List.{list_any}
use Rattle.iocm_model.specs.Rules.EachRule.{holds}
use Rattle.iocm_unit_rules.proofs.ranges.is_address_held.Given as goal

abbrev pub invariant-loop-range : goal.invariant-loop-range
invariant-loop-range l = list_any (holds l.address) (drop l.range-index l.ranges) ≡ list_any (holds l.address) l.ranges
