use Rattle.iocm_operands.proofs.Operands.{units_again}
use Rattle.iocm_operands.proofs.laws.units_are_read_again.Goals as goal

pub returns : goal.returns
returns c = units_again
