use Rattle.iocm_operands.proofs.Lists.{links_again}
use Rattle.iocm_operands.proofs.laws.links_are_read_again.Goals as goal

pub returns : goal.returns
returns c = links_again
