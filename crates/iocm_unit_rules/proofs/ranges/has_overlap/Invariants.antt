-- None of the ranges so far overlaps one behind it.
use Rattle.std.proofs.Common.{◌≡◌, drop}
use Rattle.iocm_model.specs.Rules.EachRule.{has_overlap}
use Rattle.iocm_unit_rules.proofs.ranges.has_overlap.Given as goal

abbrev pub invariant-loop-i : goal.invariant-loop-i
invariant-loop-i l = has_overlap (drop l.i l.ranges) ≡ has_overlap l.ranges
