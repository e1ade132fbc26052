use Rattle.iocm_deck_writer.proofs.Again.{operands_again}
use Rattle.iocm_deck_writer.proofs.laws.operands_are_read_again.Goals as goal

pub returns : goal.returns
returns c = operands_again
