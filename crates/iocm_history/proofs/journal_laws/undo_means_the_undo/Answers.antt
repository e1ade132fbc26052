-- The law is proved of the definitions.
use Rattle.iocm_history.proofs.UndoMeans as proof
use Rattle.iocm_history.proofs.journal_laws.undo_means_the_undo.Goals as goal

pub returns : goal.returns
returns c = proof.undo_means_the_undo
