-- Behind those that were listed are the ranges so far.
use Rattle.std.proofs.Common.{◌≡◌, ◌++◌, take}
use Rattle.iocm_unit_rules.specs.LinkRanges.{ranges_on}
use Rattle.iocm_unit_rules.proofs.link_ranges.ranges_on_link.Given as goal

abbrev pub invariant-loop-range : goal.invariant-loop-range
invariant-loop-range g l = l.listed.items ≡ l.fn.listed.items ++ ranges_on (take l.range-index l.ranges) l.link
