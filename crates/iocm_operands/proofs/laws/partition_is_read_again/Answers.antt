use Rattle.iocm_operands.proofs.Names.{partition_again}
use Rattle.iocm_operands.proofs.laws.partition_is_read_again.Goals as goal

pub returns : goal.returns
returns c = partition_again
