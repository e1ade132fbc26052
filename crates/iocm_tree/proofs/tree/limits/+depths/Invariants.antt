use Rattle.std.proofs.Common.{◌≡◌, ◌+◌, ◌*◌, drop, max, min}
use Rattle.iocm_model.specs.Change.Tree.{depth_in}
use Rattle.iocm_tree.specs.Trees.{plain_parts, parts_of}
use Rattle.iocm_tree.proofs.tree.limits.+depths.Given as goal

abbrev pub decreases-depth_within : goal.decreases-depth_within
decreases-depth_within g l = 2 * l.most

abbrev pub decreases-deepest_within : goal.decreases-deepest_within
decreases-deepest_within g l = 2 * l.most + 1

abbrev pub invariant-deepest_within-loop-part : goal.invariant-deepest_within-loop-part
invariant-deepest_within-loop-part g l =
    max l.deepest (min l.most (depth_in (plain_parts (parts_of (drop l.part-index l.part-items)))))
    ≡ min l.most (depth_in (plain_parts (parts_of l.parts.items)))
