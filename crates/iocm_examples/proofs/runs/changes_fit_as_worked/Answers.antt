-- Each change is tried on states as lists.
use Rattle.iocm_examples.proofs.Fitted.{from_another_value, not_there_to_delete, there_to_add}
use Rattle.iocm_examples.proofs.runs.changes_fit_as_worked.Goals as goal

pub returns-clause-another : goal.returns-clause-another
returns-clause-another c = from_another_value

pub returns-clause-not_there : goal.returns-clause-not_there
returns-clause-not_there c = not_there_to_delete

pub returns-clause-there : goal.returns-clause-there
returns-clause-there c = there_to_add
