use Rattle.iocm_answer.proofs.Again.{prints_the_same}
use Rattle.iocm_answer.proofs.laws.what_is_written_is_read_again.Goals as goal

pub returns : goal.returns
returns c = prints_the_same
