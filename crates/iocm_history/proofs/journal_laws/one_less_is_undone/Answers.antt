-- The law is proved of the definitions.
use Rattle.iocm_history.proofs.Facts as proof
use Rattle.iocm_history.proofs.journal_laws.one_less_is_undone.Goals as goal

pub returns : goal.returns
returns c = proof.one_less_is_undone
