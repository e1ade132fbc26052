-- The law is proved of the definitions.
use Rattle.iocm_history.proofs.Facts as proof
use Rattle.iocm_history.proofs.journal_laws.stages_are_ready.Goals as goal

pub returns : goal.returns
returns c = proof.stages_are_ready
