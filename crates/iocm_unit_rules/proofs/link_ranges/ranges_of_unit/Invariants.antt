-- The ranges so far, with those on the links that are left, are all.
use Rattle.std.proofs.Common.{◌≡◌, ◌++◌, drop}
use Rattle.std.specs.List.{flat_map}
use Rattle.iocm_model.specs.Machine.Record.{unit}
use Rattle.iocm_record.specs.Meaning.{unit_of}
use Rattle.iocm_unit_rules.specs.LinkRanges.{ranges_on, link_ranges}
use Rattle.iocm_unit_rules.proofs.link_ranges.ranges_of_unit.Given as goal

abbrev pub invariant-loop-link : goal.invariant-loop-link
invariant-loop-link g l =
    l.listed.items ++ flat_map (ranges_on l.fields.ranges) (drop l.link-index l.link-items) ≡ l.fn.listed.items
    ++ link_ranges (unit (unit_of l.fields))
