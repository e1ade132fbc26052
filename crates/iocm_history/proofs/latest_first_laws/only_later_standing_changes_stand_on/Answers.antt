-- The law is proved of the definitions.
use Rattle.iocm_history.proofs.OnlyLater as proof
use Rattle.iocm_history.proofs.latest_first_laws.only_later_standing_changes_stand_on.Goals as goal

pub returns : goal.returns
returns c = proof.only_later_standing_changes_stand_on
