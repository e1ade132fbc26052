-- The law is proved of the definitions.
use Rattle.iocm_history.proofs.Reckoned as proof
use Rattle.iocm_history.proofs.journal_laws.later_stand_on_it.Goals as goal

pub returns : goal.returns
returns c = proof.later_stand_on_it
