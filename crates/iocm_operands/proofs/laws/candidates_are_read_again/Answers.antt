use Rattle.iocm_operands.proofs.Names.{candidates_again}
use Rattle.iocm_operands.proofs.laws.candidates_are_read_again.Goals as goal

pub returns : goal.returns
returns c = candidates_again
