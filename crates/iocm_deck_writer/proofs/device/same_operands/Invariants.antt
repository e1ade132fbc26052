use Rattle.std.proofs.Common.{◌≡◌, drop, length}
use Rattle.std.specs.Cmp.Lexicographic.{pointwise}
use Rattle.iocm_deck_writer.specs.Device.{same_operand}
use Rattle.iocm_deck_writer.proofs.device.same_operands.Given as goal

abbrev pub invariant-loop-index : goal.invariant-loop-index
invariant-loop-index g l =
    (length l.a ≡ length l.b)
    × (pointwise same_operand (drop l.index l.a) (drop l.index l.b) ≡ pointwise same_operand l.a l.b)
