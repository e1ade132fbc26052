-- The law is proved of the definitions.
use Rattle.iocm_runs.proofs.StagedRun as proof
use Rattle.iocm_runs.proofs.runs.staged_runs_are_runs.Goals as goal

pub returns : goal.returns
returns c = proof.staged_runs_are_runs
