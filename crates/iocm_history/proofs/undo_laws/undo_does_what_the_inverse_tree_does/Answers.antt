-- The law is proved of the definitions.
use Rattle.iocm_history.proofs.Undoing as proof
use Rattle.iocm_history.proofs.undo_laws.undo_does_what_the_inverse_tree_does.Goals as goal

pub returns : goal.returns
returns c = proof.undo_does_what_the_inverse_tree_does
