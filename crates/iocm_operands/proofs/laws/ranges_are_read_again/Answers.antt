use Rattle.iocm_operands.proofs.Operands.{ranges_again}
use Rattle.iocm_operands.proofs.laws.ranges_are_read_again.Goals as goal

pub returns : goal.returns
returns c = ranges_again
