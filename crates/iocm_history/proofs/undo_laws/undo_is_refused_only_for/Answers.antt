-- The law is proved of the definitions.
use Rattle.iocm_history.proofs.Refusing as proof
use Rattle.iocm_history.proofs.undo_laws.undo_is_refused_only_for.Goals as goal

pub returns : goal.returns
returns c = proof.undo_is_refused_only_for
