use Rattle.std.proofs.Common.{◌+◌, ◌*◌, map}
use Rattle.iocm_model.specs.Change.Meaning.{parts_meaning, choice_meaning, without_parts}
use Rattle.iocm_tree.specs.Trees.{tree_of, parts_of, plain_parts}
use Rattle.iocm_tree.proofs.Trees.{nodes, nodes_among}
use Rattle.iocm_activate.proofs.UnderWay.{WalksOn, TriesOn}
use Rattle.iocm_activate.proofs.walk.+walk.Given as goal

abbrev pub decreases-walk : goal.decreases-walk
decreases-walk g l = 4 * nodes (tree_of l.tree.now)

abbrev pub decreases-walk_closed : goal.decreases-walk_closed
decreases-walk_closed g l = 4 * nodes (tree_of l.tree.now) + 1

abbrev pub decreases-walk_all : goal.decreases-walk_all
decreases-walk_all g l = 4 * nodes_among (map tree_of l.parts.now.items) + 2

abbrev pub decreases-walk_group : goal.decreases-walk_group
decreases-walk_group g l = 4 * nodes_among (map tree_of l.parts.now.items) + 3

abbrev pub decreases-walk_first : goal.decreases-walk_first
decreases-walk_first g l = 4 * nodes_among (map tree_of l.parts.now.items) + 3

-- how far a walk through parts in order has come
abbrev pub invariant-walk_all-loop-part : goal.invariant-walk_all-loop-part
invariant-walk_all-loop-part g l =
    WalksOn (parts_meaning (plain_parts (parts_of l.parts.items)) l.node l.initial.plant.state)
    l.part-items l.part-index l.next l.initial.plant l.initial.log l.plant l.log

-- and how far one through the parts of a Choose
abbrev pub invariant-walk_first-loop-part : goal.invariant-walk_first-loop-part
invariant-walk_first-loop-part g l =
    TriesOn (choice_meaning (plain_parts (parts_of l.parts.items)) (l.node + 1) (without_parts l.node)
    l.initial.plant.state)
    l.part-items l.part-index l.next l.last l.initial.plant l.initial.log l.plant l.log
