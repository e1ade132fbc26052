use Rattle.std.proofs.Common.{◌≡◌, map, take}
use Rattle.iocm_operands.specs.Unit.{range_text}
use Rattle.iocm_deck_writer.proofs.unit.ranges_text.Given as goal

abbrev pub invariant-loop-range : goal.invariant-loop-range
invariant-loop-range l = l.items.items ≡ map range_text (take l.range-index l.ranges)
