-- The law is proved of the definitions.
use Rattle.iocm_history.proofs.Unblocked as proof
use Rattle.iocm_history.proofs.latest_first_laws.latest_is_never_blocked.Goals as goal

pub returns : goal.returns
returns c = proof.latest_is_never_blocked
