-- The law is proved of the definitions.
use Rattle.iocm_history.proofs.Undoing as proof
use Rattle.iocm_history.proofs.undo_laws.standing_changes_fit.Goals as goal

pub returns : goal.returns
returns c = proof.standing_changes_fit
