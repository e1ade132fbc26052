use Rattle.std.proofs.Common.{◌≡◌, ◌+◌, ◌*◌, ◌++◌, drop, map}
use Rattle.iocm_tree.specs.Trees.{parts_of, plain_parts, tree_of}
use Rattle.iocm_tree.proofs.Trees.{nodes, nodes_among}
use Rattle.iocm_reports.specs.WayBack.{told_among}
use Rattle.iocm_reports.proofs.back.+remarks.Given as goal

abbrev pub decreases-put_tree : goal.decreases-put_tree
decreases-put_tree g l = 2 * nodes (tree_of l.tree.now)

abbrev pub decreases-put_parts : goal.decreases-put_parts
decreases-put_parts g l = 2 * nodes_among (map tree_of l.parts.now.items) + 1

abbrev pub invariant-put_parts-loop-part : goal.invariant-put_parts-loop-part
invariant-put_parts-loop-part g l =
    l.text.items ++ told_among l.form (plain_parts (parts_of (drop l.part-index l.part-items))) ≡ l.fn.text.items
    ++ told_among l.fn.form (plain_parts (parts_of l.parts.items))
