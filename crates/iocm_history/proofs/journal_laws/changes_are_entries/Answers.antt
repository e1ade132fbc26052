-- The law is proved of the definitions.
use Rattle.iocm_history.proofs.Facts as proof
use Rattle.iocm_history.proofs.journal_laws.changes_are_entries.Goals as goal

pub returns : goal.returns
returns c = proof.changes_are_entries
