use Rattle.iocm_round_trip.proofs.Columns.{statements_are_read_again}
use Rattle.iocm_round_trip.proofs.laws.statements_are_read_again.Goals as goal

pub returns : goal.returns
returns c = statements_are_read_again
