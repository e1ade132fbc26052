use Rattle.std.proofs.Common.{◌≡◌, ◌+◌, ◌*◌, map, take}
use Rattle.iocm_tree.specs.Trees.{tree_of}
use Rattle.iocm_tree.proofs.Trees.{nodes, nodes_among}
use Rattle.iocm_tree.proofs.tree.copying.+copying.Given as goal

abbrev pub decreases-copy_tree : goal.decreases-copy_tree
decreases-copy_tree g l = 2 * nodes (tree_of l.tree.now)

abbrev pub decreases-copy_parts : goal.decreases-copy_parts
decreases-copy_parts g l = 2 * nodes_among (map tree_of l.parts.now.items) + 1

abbrev pub invariant-copy_parts-loop-part : goal.invariant-copy_parts-loop-part
invariant-copy_parts-loop-part g l = map tree_of l.copies.items ≡ map tree_of (take l.part-index l.parts.items)
