use Rattle.std.proofs.Common.{◌≡◌, ◌≢◌, ◌∙◌, length, sym, arith}
use Rattle.iocm_tree_reader.specs.declared.kind.NodeKind.TheVariants.{Row}
use Rattle.iocm_tree_reader.proofs.Counting.{counted_node, counted_only, only_item, whole_several}
use Rattle.iocm_tree_reader.proofs.gathering.whole.Goals as goal

pub invariant_of-result : goal.invariant_of-result
invariant_of-result g c =
    record {
      counted = c.inside.ensures
          ∙ counted_node Row c.tree_of_kind.result c.args.nodes.trees.items c.args.nodes.size c.tree_of_kind.ensures
          c.args.nodes.counted;
    }

pub returns-then-len-ne1 : goal.returns-then-len-ne1
returns-then-len-ne1 g c =
    let apart : length c.args.nodes.trees.items ≢ 1 = grind arith in
    c.tree_of_kind.ensures ∙ sym (whole_several c.args.nodes.trees.items apart)

pub invariant_of-result-2 : goal.invariant_of-result-2
invariant_of-result-2 g c =
    let one : length c.args.nodes.trees.items ≡ 1 = grind arith in
    record {
      counted = counted_only c.args.nodes.trees.items c.in-Some.tree c.args.nodes.size
          (only_item _ _ _ c.in-Some.ensures.items one) c.args.nodes.counted;
    }
