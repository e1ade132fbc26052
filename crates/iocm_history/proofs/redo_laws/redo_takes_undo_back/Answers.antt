-- The law is proved of the definitions.
use Rattle.iocm_history.proofs.Redoing as proof
use Rattle.iocm_history.proofs.redo_laws.redo_takes_undo_back.Goals as goal

pub returns : goal.returns
returns c = proof.redo_takes_undo_back
