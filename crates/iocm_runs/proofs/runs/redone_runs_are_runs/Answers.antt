-- The law is proved of the definitions.
use Rattle.iocm_runs.proofs.RedoneRun as proof
use Rattle.iocm_runs.proofs.runs.redone_runs_are_runs.Goals as goal

pub returns : goal.returns
returns c = proof.redone_runs_are_runs
