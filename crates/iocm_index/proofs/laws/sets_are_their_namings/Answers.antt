-- The law is proved of the definitions.
use Rattle.iocm_index.proofs.Members.{same_namings}
use Rattle.iocm_index.proofs.laws.sets_are_their_namings.Goals as goal

pub returns : goal.returns
returns c = same_namings
