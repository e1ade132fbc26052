use Rattle.std.proofs.Common.{◌≡◌, ◌≤◌, ◌+◌, ◌-◌, ◌*◌, drop, map, min}
use Rattle.iocm_model.specs.Change.Tree.{leaves_in}
use Rattle.iocm_tree.specs.Trees.{plain_parts, parts_of, tree_of}
use Rattle.iocm_tree.proofs.Trees.{nodes, nodes_among}
use Rattle.iocm_tree.proofs.tree.limits.+leaves.Given as goal

abbrev pub decreases-leaves_within : goal.decreases-leaves_within
decreases-leaves_within g l = 3 * nodes (tree_of l.tree.now)

abbrev pub decreases-leaves_of_node : goal.decreases-leaves_of_node
decreases-leaves_of_node g l = 3 * nodes_among (map tree_of l.parts.now.items) + 2

abbrev pub decreases-leaves_among : goal.decreases-leaves_among
decreases-leaves_among g l = 3 * nodes_among (map tree_of l.parts.now.items) + 1

abbrev pub invariant-leaves_among-loop-part : goal.invariant-leaves_among-loop-part
invariant-leaves_among-loop-part g l =
    (l.left ≤ l.most) × (min l.most
    ((l.most - l.left) + leaves_in (plain_parts (parts_of (drop l.part-index l.part-items))))
    ≡ min l.most (leaves_in (plain_parts (parts_of l.parts.items))))
