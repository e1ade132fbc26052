-- The law is proved of the definitions.
use Rattle.iocm_difference.proofs.GoingBack.{difference_goes_back}
use Rattle.iocm_difference.proofs.laws.the_difference_goes_back.Goals as goal

pub returns : goal.returns
returns c = difference_goes_back
