-- The law is proved of the definitions.
use Rattle.iocm_history.proofs.Stages as proof
use Rattle.iocm_history.proofs.stage_laws.commit_does_the_edits.Goals as goal

pub returns : goal.returns
returns c = proof.commit_does_the_edits
