use Rattle.iocm_answer.proofs.WorkedRows.{altered_as_worked}
use Rattle.iocm_answer.proofs.laws.altered_rows_are_asked_for_as_worked.Goals as goal

pub returns : goal.returns
returns c = altered_as_worked
