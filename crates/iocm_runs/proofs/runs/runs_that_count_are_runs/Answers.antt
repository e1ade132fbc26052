-- The law is proved of the definitions.
use Rattle.iocm_runs.proofs.RedoneAmong as proof
use Rattle.iocm_runs.proofs.runs.runs_that_count_are_runs.Goals as goal

pub returns : goal.returns
returns c = proof.runs_that_count_are_runs
