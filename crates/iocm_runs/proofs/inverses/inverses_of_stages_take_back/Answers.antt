-- The law is proved of the definitions.
use Rattle.iocm_runs.proofs.TakingBack as proof
use Rattle.iocm_runs.proofs.inverses.inverses_of_stages_take_back.Goals as goal

pub returns : goal.returns
returns c = proof.inverses_of_stages_take_back
