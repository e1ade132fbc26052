use Rattle.std.proofs.Common.{◌≡◌, ◌≤◌, fold, length, take}
use Rattle.iocm_tree_reader.specs.Sizes.{around}
use Rattle.iocm_tree_reader.specs.Views.{stack_seen}
use Rattle.iocm_tree_reader.proofs.stack.size_around.Given as goal

abbrev pub invariant-loop-left : goal.invariant-loop-left
invariant-loop-left g l =
    (l.left ≤ length l.stack)
    × (fold around l.size (stack_seen (take l.left l.stack)) ≡ fold around l.fn.size (stack_seen l.stack))

abbrev pub decreases-loop-left : goal.decreases-loop-left
decreases-loop-left g l = l.left
