-- The law is proved of the definitions.
use Rattle.iocm_history.proofs.Found as proof
use Rattle.iocm_history.proofs.journal_laws.only_these_are_there.Goals as goal

pub returns : goal.returns
returns c = proof.only_these_are_there
