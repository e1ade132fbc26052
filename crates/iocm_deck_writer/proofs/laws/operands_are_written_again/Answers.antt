use Rattle.iocm_deck_writer.proofs.Given.{operands_given, carried_given}
use Rattle.iocm_deck_writer.proofs.laws.operands_are_written_again.Goals as goal

pub returns : goal.returns
returns c = record { all = operands_given; carried = carried_given }
