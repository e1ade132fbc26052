-- The ranges so far follow each other, and so it is left to the rest.
use Rattle.std.proofs.Common.{◌≡◌, drop}
use Rattle.iocm_unit_rules.specs.LinkRanges.{do_follow_behind}
use Rattle.iocm_unit_rules.proofs.link_ranges.do_follow_behind.Given as goal

abbrev pub invariant-loop-range : goal.invariant-loop-range
invariant-loop-range l = do_follow_behind l.last (drop l.range-index l.ranges) ≡ do_follow_behind l.fn.first l.ranges
