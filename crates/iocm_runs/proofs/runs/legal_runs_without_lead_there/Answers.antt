-- The law is proved of the definitions.
use Rattle.iocm_runs.proofs.Later as proof
use Rattle.iocm_runs.proofs.runs.legal_runs_without_lead_there.Goals as goal

pub returns : goal.returns
returns c = proof.legal_runs_without_lead_there
