-- The law is proved of the definitions.
use Rattle.iocm_history.proofs.EachCall as proof
use Rattle.iocm_history.proofs.history_laws.activations_do_what_they_mean.Goals as goal

pub returns : goal.returns
returns c = proof.activations_do_what_they_mean
