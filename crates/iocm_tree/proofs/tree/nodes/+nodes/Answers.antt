use Rattle.std.proofs.Common.{◌<◌, ◌≤◌, ◌^◌, length, ap, arith, rules}
use Rattle.iocm_model.specs.Change.Tree.{nodes_of, nodes_in}
use Rattle.iocm_tree.specs.Trees.{plain_tree, plain_parts, tree_of}
use Rattle.iocm_tree.proofs.Trees.{nodes_of_part, none_left}
use Rattle.iocm_tree.proofs.tree.nodes.+nodes.Goals as goal

pub count_among-count_nodes-count-requires : goal.count_among-count_nodes-count-requires
count_among-count_nodes-count-requires g t c κs within =
    let fewer = nodes_of_part c.deref-part-items.result.now c.args.parts.now.items c.deref-part-items.ensures.value
    c.loop-part.part-index c.part-item.result c.loop-part-test.true c.part-item.is in
    let small : nodes_of (plain_tree (tree_of c.part-item.result)) < 2 ^ 64 = omega (arith, fewer, c.requires) in
    search rules

pub count_among-returns : goal.count_among-returns
count_among-returns g t c =
    let past : length c.deref-part-items.result.now ≤ c.loop-part.part-index = omega (arith, c.loop-part-test.false) in
    let all = ap (λ ps. nodes_in (plain_parts ps))
    (none_left c.deref-part-items.result.now c.loop-part.part-index past) in
    omega (arith, all, c.loop-part.invariant)
