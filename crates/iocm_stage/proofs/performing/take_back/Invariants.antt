use Rattle.std.proofs.Common.{length, map, reverse}
use Rattle.iocm_tree.specs.Trees.{tree_of}
use Rattle.iocm_stage.proofs.EditsLeft.{IsTakingBack}
use Rattle.iocm_stage.proofs.performing.take_back.Given as goal

abbrev pub invariant-loop-part : goal.invariant-loop-part
invariant-loop-part l = IsTakingBack l.fn.plant (tree_of l.fn.inverse) l.plant (map tree_of (reverse l.parts.items))

abbrev pub decreases-loop-part : goal.decreases-loop-part
decreases-loop-part l = length l.parts.items
