use Rattle.iocm_tree_reader.specs.Views.{nodes_seen}
use Rattle.iocm_tree_reader.proofs.Stacks.{reading_opened}
use Rattle.iocm_tree_reader.proofs.stack.open_node.Goals as goal

pub returns : goal.returns
returns g c = reading_opened (nodes_seen c.args.reading.top) _ _ _ c.in_ok-push.ensures.items c.no_nodes-parts.ensures
