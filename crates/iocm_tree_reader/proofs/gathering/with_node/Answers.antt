use Rattle.std.proofs.Common.{◌∙◌}
use Rattle.iocm_tree_reader.proofs.Counting.{counted_more, seen_more}
use Rattle.iocm_tree_reader.proofs.gathering.with_node.Goals as goal

pub invariant_of-result : goal.invariant_of-result
invariant_of-result g c =
    record {
      counted = c.beside.ensures
          ∙ counted_more c.args.nodes.trees.items c.push.new.self.items c.args.node.tree c.args.nodes.size
          c.args.node.size c.in_ok-push.ensures.items c.args.nodes.counted c.args.node.counted;
    }

pub returns : goal.returns
returns g c = seen_more _ _ _ c.in_ok-push.ensures.items
