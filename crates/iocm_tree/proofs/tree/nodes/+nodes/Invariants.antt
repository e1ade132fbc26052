use Rattle.std.proofs.Common.{◌≡◌, ◌+◌, ◌*◌, drop, map}
use Rattle.iocm_model.specs.Change.Tree.{nodes_in}
use Rattle.iocm_tree.specs.Trees.{plain_parts, parts_of, tree_of}
use Rattle.iocm_tree.proofs.Trees.{nodes, nodes_among}
use Rattle.iocm_tree.proofs.tree.nodes.+nodes.Given as goal

abbrev pub decreases-count_nodes : goal.decreases-count_nodes
decreases-count_nodes g l = 2 * nodes (tree_of l.tree.now)

abbrev pub decreases-count_among : goal.decreases-count_among
decreases-count_among g l = 2 * nodes_among (map tree_of l.parts.now.items) + 1

abbrev pub invariant-count_among-loop-part : goal.invariant-count_among-loop-part
invariant-count_among-loop-part g l =
    l.count + nodes_in (plain_parts (parts_of (drop l.part-index l.part-items)))
    ≡ nodes_in (plain_parts (parts_of l.parts.items))
