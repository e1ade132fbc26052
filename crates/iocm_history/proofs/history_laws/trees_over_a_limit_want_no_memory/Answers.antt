-- The law is proved of the definitions.
use Rattle.iocm_history.proofs.OverALimit as proof
use Rattle.iocm_history.proofs.history_laws.trees_over_a_limit_want_no_memory.Goals as goal

pub returns : goal.returns
returns c = proof.trees_over_a_limit_want_no_memory
