-- None of the ranges so far overlaps it.
use Rattle.std.proofs.Common.{◌≡◌, drop}
use Rattle.std.specs.List.{list_any}
use Rattle.iocm_model.specs.Rules.EachRule.{overlap}
use Rattle.iocm_unit_rules.proofs.ranges.overlaps_any.Given as goal

abbrev pub invariant-loop-other : goal.invariant-loop-other
invariant-loop-other l = list_any (overlap l.range) (drop l.other-index l.others) ≡ list_any (overlap l.range) l.others
