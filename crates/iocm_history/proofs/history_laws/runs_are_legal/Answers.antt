-- The law is proved of the definitions.
use Rattle.iocm_history.proofs.LegalRuns as proof
use Rattle.iocm_history.proofs.history_laws.runs_are_legal.Goals as goal

pub returns : goal.returns
returns c = proof.runs_are_legal
