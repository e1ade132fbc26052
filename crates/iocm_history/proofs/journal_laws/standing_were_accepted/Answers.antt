-- The law is proved of the definitions.
use Rattle.iocm_history.proofs.Facts as proof
use Rattle.iocm_history.proofs.journal_laws.standing_were_accepted.Goals as goal

pub returns : goal.returns
returns c = proof.standing_were_accepted
