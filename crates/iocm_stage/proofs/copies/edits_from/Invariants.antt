use Rattle.std.proofs.Common.{length, map}
use Rattle.std.specs.Vec.{vec_capacity}
use Rattle.iocm_tree.specs.Trees.{tree_of}
use Rattle.iocm_stage.proofs.Copied.{IsCopying}
use Rattle.iocm_stage.proofs.copies.edits_from.Given as goal

abbrev pub invariant-loop-part : goal.invariant-loop-part
invariant-loop-part l = IsCopying (map tree_of l.fn.parts.items) (map tree_of l.parts.items) l.edits.items
    (vec_capacity l.edits)

abbrev pub decreases-loop-part : goal.decreases-loop-part
decreases-loop-part l = length l.parts.items
