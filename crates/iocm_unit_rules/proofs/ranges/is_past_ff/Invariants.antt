-- None of the ranges so far passes FF.
use Rattle.std.proofs.Common.{◌≡◌, ◌+◌, nat_lt, drop}
use Rattle.std.specs.List.{list_any}
use Rattle.iocm_types.specs.declared.unit_range.UnitRange.{UnitRange}
use Rattle.iocm_unit_rules.proofs.ranges.is_past_ff.Given as goal

abbrev pub invariant-loop-range : goal.invariant-loop-range
invariant-loop-range l =
    list_any (λ (r : UnitRange). nat_lt 256 (r.start + r.count)) (drop l.range-index l.ranges)
    ≡ list_any (λ (r : UnitRange). nat_lt 256 (r.start + r.count)) l.ranges
