-- The law is proved of the definitions.
use Rattle.iocm_model.proofs.Change.Trees.{inverse_trees_take_back}
use Rattle.iocm_model.proofs.tree_laws.inverse_trees_take_back.Goals as goal

pub returns : goal.returns
returns c = inverse_trees_take_back
