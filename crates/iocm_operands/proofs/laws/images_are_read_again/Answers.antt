use Rattle.iocm_operands.proofs.Lists.{images_again}
use Rattle.iocm_operands.proofs.laws.images_are_read_again.Goals as goal

pub returns : goal.returns
returns c = images_again
