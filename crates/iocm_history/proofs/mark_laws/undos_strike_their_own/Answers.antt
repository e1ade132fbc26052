-- The law is proved of the definitions.
use Rattle.iocm_history.proofs.OwnMarks as proof
use Rattle.iocm_history.proofs.mark_laws.undos_strike_their_own.Goals as goal

pub returns : goal.returns
returns c = proof.undos_strike_their_own
