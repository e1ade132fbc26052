use Rattle.std.proofs.Common.{◌∙◌}
use Rattle.iocm_tree_reader.proofs.Counting.{counted_node}
use Rattle.iocm_tree_reader.proofs.gathering.node_of_kind.Goals as goal

pub invariant_of-result : goal.invariant_of-result
invariant_of-result g c =
    record {
      counted = c.inside.ensures
          ∙ counted_node c.args.kind c.tree_of_kind.result c.args.parts.trees.items c.args.parts.size
          c.tree_of_kind.ensures c.args.parts.counted;
    }
