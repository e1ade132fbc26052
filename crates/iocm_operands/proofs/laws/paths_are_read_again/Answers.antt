use Rattle.iocm_operands.proofs.Lists.{paths_again}
use Rattle.iocm_operands.proofs.laws.paths_are_read_again.Goals as goal

pub returns : goal.returns
returns c = paths_again
