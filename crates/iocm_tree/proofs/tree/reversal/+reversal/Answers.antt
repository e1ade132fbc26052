use Rattle.std.proofs.Common.{◌<◌, ◌≤◌, length, refl, ◌∙◌, arith, rules}
use Rattle.iocm_tree.proofs.Trees.{nodes_of_part}
use Rattle.iocm_tree.proofs.Reversed.{same_after, turned_more, turned_all, all_reversed}
use Rattle.iocm_tree.proofs.tree.reversal.+reversal.Goals as goal

pub reverse_each-reverse_tree-requires : goal.reverse_each-reverse_tree-requires
reverse_each-reverse_tree-requires g t c κs within =
    let same = c.loop-i.invariant.unvisited in
    let inside : c.loop-i.i < length c.args.parts.now.items =
    omega (arith, c.loop-i-test.true, c.len-i-end.ensures, c.args.parts.now.ok.0) in
    let fewer = nodes_of_part c.args.parts.now.items c.args.parts.now.items refl c.loop-i.i c.index_mut.result.now
    inside (c.index_mut.ensures.value ∙ same.1 c.loop-i.i c.index_mut.result.now (omega arith)) in
    search rules

pub reverse_each-loop-i-preserved : goal.reverse_each-loop-i-preserved
reverse_each-loop-i-preserved g t c =
    let same = c.loop-i.invariant.unvisited in
    let inside : c.loop-i.i < length c.args.parts.now.items =
    omega (arith, c.loop-i-test.true, c.len-i-end.ensures, c.args.parts.now.ok.0) in record {
      unvisited = same_after c.loop-i.parts.items c.args.parts.now.items c.loop-i.i c.reverse_tree.new.tree same;
      turned = turned_more c.loop-i.parts.items c.args.parts.now.items c.loop-i.i c.index_mut.result.now
          c.reverse_tree.new.tree same inside c.index_mut.ensures.value
          c.reverse_tree.ensures c.loop-i.invariant.turned;
    }

pub reverse_each-returns : goal.reverse_each-returns
reverse_each-returns g t c =
    let past : length c.args.parts.now.items ≤ c.loop-i.i =
    omega (arith, c.loop-i-test.false, c.len-i-end.ensures, c.args.parts.now.ok.0) in
    turned_all c.loop-i.parts.items c.args.parts.now.items c.loop-i.i c.loop-i.invariant.unvisited past
    c.loop-i.invariant.turned

pub reverse_parts-returns : goal.reverse_parts-returns
reverse_parts-returns g t c =
    all_reversed c.args.parts.now.items c.reverse_each.new.parts.items c.reverse.new.self.items c.reverse_each.ensures
    c.reverse.ensures.items
