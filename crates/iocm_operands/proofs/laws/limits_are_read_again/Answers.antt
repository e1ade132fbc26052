use Rattle.iocm_operands.proofs.Places.{limits_again}
use Rattle.iocm_operands.proofs.laws.limits_are_read_again.Goals as goal

pub returns : goal.returns
returns c = limits_again
