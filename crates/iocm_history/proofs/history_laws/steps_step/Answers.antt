-- The law is proved of the definitions.
use Rattle.iocm_history.proofs.EachCall as proof
use Rattle.iocm_history.proofs.history_laws.steps_step.Goals as goal

pub returns : goal.returns
returns c = proof.steps_step
