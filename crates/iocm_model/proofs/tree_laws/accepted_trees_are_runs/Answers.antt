-- The law is proved of the definitions.
use Rattle.iocm_model.proofs.Change.Trees.{accepted_trees_are_runs}
use Rattle.iocm_model.proofs.tree_laws.accepted_trees_are_runs.Goals as goal

pub returns : goal.returns
returns c = accepted_trees_are_runs
