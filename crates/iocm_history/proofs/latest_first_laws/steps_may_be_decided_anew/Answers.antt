-- The law is proved of the definitions.
use Rattle.iocm_history.proofs.Anew as proof
use Rattle.iocm_history.proofs.latest_first_laws.steps_may_be_decided_anew.Goals as goal

pub returns : goal.returns
returns c = proof.steps_may_be_decided_anew
