-- The law is proved of the definitions.
use Rattle.iocm_history.proofs.EachCall as proof
use Rattle.iocm_history.proofs.history_laws.other_calls_leave_the_state.Goals as goal

pub returns : goal.returns
returns c = proof.other_calls_leave_the_state
