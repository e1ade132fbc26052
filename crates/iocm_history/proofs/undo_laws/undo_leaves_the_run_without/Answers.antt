-- The law is proved of the definitions.
use Rattle.iocm_history.proofs.RunWithout as proof
use Rattle.iocm_history.proofs.undo_laws.undo_leaves_the_run_without.Goals as goal

pub returns : goal.returns
returns c = proof.undo_leaves_the_run_without
