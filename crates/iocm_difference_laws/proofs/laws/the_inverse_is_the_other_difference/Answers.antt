-- The law is proved of the definitions.
use Rattle.iocm_difference_laws.proofs.WayBack.{inverse_is_the_other_difference}
use Rattle.iocm_difference_laws.proofs.laws.the_inverse_is_the_other_difference.Goals as goal

pub returns : goal.returns
returns c = inverse_is_the_other_difference
