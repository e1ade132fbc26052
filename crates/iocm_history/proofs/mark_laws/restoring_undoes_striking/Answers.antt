-- The law is proved of the definitions.
use Rattle.iocm_history.proofs.Marks as proof
use Rattle.iocm_history.proofs.mark_laws.restoring_undoes_striking.Goals as goal

pub returns : goal.returns
returns c = proof.taken_back_strike
