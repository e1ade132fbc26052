-- None of the ranges so far overlaps one of the others.
use Rattle.std.proofs.Common.{◌≡◌, drop}
use Rattle.std.specs.List.{list_any}
use Rattle.iocm_model.specs.Rules.EachRule.{overlap}
use Rattle.iocm_unit_rules.proofs.sharing.any_overlap.Given as goal

abbrev pub invariant-loop-range : goal.invariant-loop-range
invariant-loop-range l =
    list_any (λ r. list_any (overlap r) l.others) (drop l.range-index l.ranges)
    ≡ list_any (λ r. list_any (overlap r) l.others) l.ranges
