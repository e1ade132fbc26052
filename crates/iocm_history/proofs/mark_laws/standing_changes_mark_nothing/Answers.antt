-- The law is proved of the definitions.
use Rattle.iocm_history.proofs.MarkLaws as proof
use Rattle.iocm_history.proofs.mark_laws.standing_changes_mark_nothing.Goals as goal

pub returns : goal.returns
returns c = proof.standing_changes_mark_nothing
