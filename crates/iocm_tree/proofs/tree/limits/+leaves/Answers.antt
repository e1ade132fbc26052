use Rattle.std.proofs.Common.{◌≤◌, length, ap, arith, rules}
use Rattle.iocm_model.specs.Change.Tree.{leaves_in}
use Rattle.iocm_tree.specs.Trees.{plain_parts}
use Rattle.iocm_tree.proofs.Trees.{nodes_of_part, rest_at, none_left}
use Rattle.iocm_tree.proofs.tree.limits.+leaves.Goals as goal

pub leaves_among-leaves_within-left-requires : goal.leaves_among-leaves_within-left-requires
leaves_among-leaves_within-left-requires g t c κs within =
    let fewer = nodes_of_part c.deref-part-items.result.now c.args.parts.now.items c.deref-part-items.ensures.value
    c.loop-part.part-index c.part-item.result c.loop-part-test.true c.part-item.is in
    search rules

pub leaves_among-loop-part-preserved : goal.leaves_among-loop-part-preserved
leaves_among-loop-part-preserved g t c =
    let rest = ap (λ ps. leaves_in (plain_parts ps))
    (rest_at c.deref-part-items.result.now c.loop-part.part-index c.part-item.result c.loop-part-test.true
    c.part-item.is) in (
      omega (arith, c.loop-part.invariant.0),
      omega (arith, rest, c.leaves_within-left.ensures, c.loop-part.invariant.0, c.loop-part.invariant.1),
    )

pub leaves_among-returns : goal.leaves_among-returns
leaves_among-returns g t c =
    let past : length c.deref-part-items.result.now ≤ c.loop-part.part-index = omega (arith, c.loop-part-test.false) in
    let all = ap (λ ps. leaves_in (plain_parts ps))
    (none_left c.deref-part-items.result.now c.loop-part.part-index past) in
    omega (arith, all, c.loop-part.invariant.0, c.loop-part.invariant.1)
