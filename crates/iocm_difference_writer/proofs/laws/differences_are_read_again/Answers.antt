use Rattle.iocm_difference_writer.proofs.DifferenceAgain.{difference_is_read_again}
use Rattle.iocm_difference_writer.proofs.laws.differences_are_read_again.Goals as goal

pub returns : goal.returns
returns c = difference_is_read_again
