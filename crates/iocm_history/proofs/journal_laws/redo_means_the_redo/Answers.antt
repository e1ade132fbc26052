-- The law is proved of the definitions.
use Rattle.iocm_history.proofs.RedoMeans as proof
use Rattle.iocm_history.proofs.journal_laws.redo_means_the_redo.Goals as goal

pub returns : goal.returns
returns c = proof.redo_means_the_redo
