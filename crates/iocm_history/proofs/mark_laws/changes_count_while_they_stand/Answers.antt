-- The law is proved of the definitions.
use Rattle.iocm_history.proofs.MarkLaws as proof
use Rattle.iocm_history.proofs.mark_laws.changes_count_while_they_stand.Goals as goal

pub returns : goal.returns
returns c = proof.changes_count_while_they_stand
