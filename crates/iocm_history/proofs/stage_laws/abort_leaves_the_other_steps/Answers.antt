-- The law is proved of the definitions.
use Rattle.iocm_history.proofs.Stages as proof
use Rattle.iocm_history.proofs.stage_laws.abort_leaves_the_other_steps.Goals as goal

pub returns : goal.returns
returns c = proof.abort_leaves_the_other_steps
