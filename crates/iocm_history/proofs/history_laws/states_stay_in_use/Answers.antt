-- The law is proved of the definitions.
use Rattle.iocm_history.proofs.EachCall as proof
use Rattle.iocm_history.proofs.history_laws.states_stay_in_use.Goals as goal

pub returns : goal.returns
returns c = proof.states_stay_in_use
