-- The law is proved of the definitions.
use Rattle.iocm_history.proofs.Undoing as proof
use Rattle.iocm_history.proofs.undo_laws.undo_puts_the_cells_back.Goals as goal

pub returns : goal.returns
returns c = proof.undo_puts_the_cells_back
