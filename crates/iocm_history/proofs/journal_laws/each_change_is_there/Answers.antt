-- The law is proved of the definitions.
use Rattle.iocm_history.proofs.Found as proof
use Rattle.iocm_history.proofs.journal_laws.each_change_is_there.Goals as goal

pub returns : goal.returns
returns c = proof.each_change_is_there
