use Rattle.std.proofs.Common.{◌≡◌, drop, map}
use Rattle.iocm_values.specs.Reading.{every, after_front}
use Rattle.iocm_values.specs.Value.{seen}
use Rattle.iocm_operands.specs.Unit.{range_of}
use Rattle.iocm_operands.proofs.unit.read_ranges.Given as goal

abbrev pub invariant-loop-item : goal.invariant-loop-item
invariant-loop-item l = after_front l.ranges.items (every range_of (map seen (drop l.item-index l.items)))
    ≡ every range_of (map seen l.items)
