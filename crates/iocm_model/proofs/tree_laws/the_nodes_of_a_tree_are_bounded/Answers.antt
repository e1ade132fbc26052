use Rattle.iocm_model.proofs.Change.Nodes.{nodes_are_bounded}
use Rattle.iocm_model.proofs.tree_laws.the_nodes_of_a_tree_are_bounded.Goals as goal

pub returns : goal.returns
returns c = record { bounded = nodes_are_bounded }
