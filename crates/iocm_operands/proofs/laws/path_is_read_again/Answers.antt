use Rattle.iocm_operands.proofs.Operands.{path_again}
use Rattle.iocm_operands.proofs.laws.path_is_read_again.Goals as goal

pub returns : goal.returns
returns c = path_again
