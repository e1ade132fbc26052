-- The law is proved of the definitions.
use Rattle.iocm_history.proofs.Found as proof
use Rattle.iocm_history.proofs.journal_laws.changes_stay_there.Goals as goal

pub returns : goal.returns
returns c = proof.changes_stay_there
