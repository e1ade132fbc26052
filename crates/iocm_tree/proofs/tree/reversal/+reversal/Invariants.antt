use Rattle.std.proofs.Common.{◌≡◌, ◌+◌, ◌*◌, map, take}
use Rattle.iocm_tree.specs.Reversed.{reversed}
use Rattle.iocm_tree.specs.Trees.{tree_of}
use Rattle.iocm_tree.proofs.Trees.{nodes, nodes_among}
use Rattle.iocm_tree.proofs.tree.reversal.+reversal.Given as goal

abbrev pub decreases-reverse_tree : goal.decreases-reverse_tree
decreases-reverse_tree g l = 3 * nodes (tree_of l.tree.now)

abbrev pub decreases-reverse_parts : goal.decreases-reverse_parts
decreases-reverse_parts g l = 3 * nodes_among (map tree_of l.parts.now.items) + 2

abbrev pub decreases-reverse_each : goal.decreases-reverse_each
decreases-reverse_each g l = 3 * nodes_among (map tree_of l.parts.now.items) + 1

abbrev pub invariant-reverse_each-loop-i : goal.invariant-reverse_each-loop-i
invariant-reverse_each-loop-i g l = record {
  unvisited : goal.unvisited-reverse_each-loop-i g l;
  turned : map tree_of (take l.i l.parts.items) ≡ map (λ p. reversed (tree_of p)) (take l.i l.initial.parts.items);
}
