use Rattle.std.proofs.Common.{◌∙◌}
use Rattle.iocm_tree_reader.specs.Views.{node_seen, nodes_seen, stack_seen}
use Rattle.iocm_tree_reader.proofs.Limits.{over_node}
use Rattle.iocm_tree_reader.proofs.stack.over_putting.Goals as goal

pub returns : goal.returns
returns g c =
    c.over_with.ensures
    ∙ over_node (node_seen c.args.node.now) c.args.node.now.size (nodes_seen c.args.reading.now.top)
    (stack_seen c.args.reading.now.stack.items) c.args.node.now.counted
