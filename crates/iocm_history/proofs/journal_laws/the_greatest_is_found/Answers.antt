-- The law is proved of the definitions.
use Rattle.iocm_history.proofs.TheGreatest as proof
use Rattle.iocm_history.proofs.journal_laws.the_greatest_is_found.Goals as goal

pub returns : goal.returns
returns c = proof.the_greatest_is_found
