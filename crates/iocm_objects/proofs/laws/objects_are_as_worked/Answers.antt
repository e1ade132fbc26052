-- Each row is computed.
use Rattle.iocm_objects.proofs.MoreWorked.{objects_worked}
use Rattle.iocm_objects.proofs.Worked.{changes_worked, counts_worked, fields_worked, lines_worked, runs_worked}
use Rattle.iocm_objects.proofs.laws.objects_are_as_worked.Goals as goal

pub returns-clause-fields : goal.returns-clause-fields
returns-clause-fields c = fields_worked

pub returns-clause-changes : goal.returns-clause-changes
returns-clause-changes c = changes_worked

pub returns-clause-runs : goal.returns-clause-runs
returns-clause-runs c = runs_worked

pub returns-clause-lines : goal.returns-clause-lines
returns-clause-lines c = lines_worked

pub returns-clause-counts : goal.returns-clause-counts
returns-clause-counts c = counts_worked

pub returns-clause-objects : goal.returns-clause-objects
returns-clause-objects c = objects_worked
