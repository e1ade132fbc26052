-- The law is proved of the definitions.
use Rattle.iocm_runs.proofs.UndoneRun as proof
use Rattle.iocm_runs.proofs.runs.undone_runs_are_runs.Goals as goal

pub returns : goal.returns
returns c = proof.undone_runs_are_runs
