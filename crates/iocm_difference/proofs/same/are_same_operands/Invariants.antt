use Rattle.std.proofs.Common.{◌≡◌, drop, length}
use Rattle.std.specs.Cmp.Lexicographic.{pointwise}
use Rattle.iocm_difference.specs.Same.{same_operand}
use Rattle.iocm_difference.proofs.same.are_same_operands.Given as goal

-- from the index on they are the same exactly where all are
abbrev pub invariant-loop-index : goal.invariant-loop-index
invariant-loop-index g l =
    (length l.old ≡ length l.new)
    × (pointwise same_operand (drop l.index l.old) (drop l.index l.new) ≡ pointwise same_operand l.old l.new)
