use Rattle.std.proofs.Common.{◌≤◌, ◌+◌, length, drop, max, min, ap, sym, ◌∙◌, arith}
use Rattle.iocm_model.specs.Change.Tree.{depth_of, depth_in}
use Rattle.iocm_tree.specs.Trees.{plain_tree, plain_parts, tree_of, parts_of}
use Rattle.iocm_tree.proofs.Depths.{deepest_more, greater}
use Rattle.iocm_tree.proofs.Trees.{rest_at, none_left}
use Rattle.iocm_tree.proofs.tree.limits.+depths.Goals as goal

pub deepest_within-loop-part-preserved : goal.deepest_within-loop-part-preserved
deepest_within-loop-part-preserved g t c =
    let here = rest_at c.deref-part-items.result.now c.loop-part.part-index c.part-item.result c.loop-part-test.true
    c.part-item.is in
    let later = depth_in (plain_parts (parts_of (drop (c.loop-part.part-index + 1) c.deref-part-items.result.now))) in
    let one = depth_of (plain_tree (tree_of c.part-item.result)) in
    ap (λ n. max n (min c.args.most later))
    (c.max-deepest.ensures ∙ greater c.loop-part.deepest c.depth_within.result
    ∙ ap (max c.loop-part.deepest) c.depth_within.ensures)
    ∙ deepest_more c.args.most c.loop-part.deepest one later
    ∙ ap (λ ps. max c.loop-part.deepest (min c.args.most (depth_in (plain_parts ps)))) (sym here)
    ∙ c.loop-part.invariant

pub deepest_within-returns : goal.deepest_within-returns
deepest_within-returns g t c =
    let past : length c.deref-part-items.result.now ≤ c.loop-part.part-index = omega (arith, c.loop-part-test.false) in
    let all = ap (λ ps. depth_in (plain_parts ps))
    (none_left c.deref-part-items.result.now c.loop-part.part-index past) in
    omega (arith, all, c.loop-part.invariant)
