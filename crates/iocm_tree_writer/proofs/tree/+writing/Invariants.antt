use Rattle.std.proofs.Common.{◌≡◌, ◌+◌, ◌*◌, ◌++◌, drop, map}
use Rattle.iocm_tree.specs.Trees.{parts_of, plain_parts, tree_of}
use Rattle.iocm_tree.proofs.Trees.{nodes, nodes_among}
use Rattle.iocm_tree_writer.specs.Written.{written_in}
use Rattle.iocm_tree_writer.proofs.tree.+writing.Given as goal

abbrev pub decreases-put_tree : goal.decreases-put_tree
decreases-put_tree g l = 3 * nodes (tree_of l.tree.now)

abbrev pub decreases-put_node : goal.decreases-put_node
decreases-put_node g l = 3 * nodes_among (map tree_of l.parts.now.items) + 2

abbrev pub decreases-put_parts : goal.decreases-put_parts
decreases-put_parts g l = 3 * nodes_among (map tree_of l.parts.now.items) + 1

abbrev pub invariant-put_parts-loop-part : goal.invariant-put_parts-loop-part
invariant-put_parts-loop-part g l =
    l.deck.items ++ written_in (plain_parts (parts_of (drop l.part-index l.part-items))) ≡ l.fn.deck.items
    ++ written_in (plain_parts (parts_of l.parts.items))
