use Rattle.iocm_operands.proofs.Operands.{devices_again}
use Rattle.iocm_operands.proofs.laws.devices_are_read_again.Goals as goal

pub returns : goal.returns
returns c = devices_again
