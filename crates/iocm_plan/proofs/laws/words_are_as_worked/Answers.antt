-- The words hold, filters leave of them, objects differ and runs are as they are worked.
use Rattle.iocm_plan.proofs.LeftWorked.{left_as_worked}
use Rattle.iocm_plan.proofs.MoreWorked.{objects_as_worked, runs_as_worked}
use Rattle.iocm_plan.proofs.Worked.{words_as_worked}
use Rattle.iocm_plan.proofs.laws.words_are_as_worked.Goals as goal

pub returns-clause-words : goal.returns-clause-words
returns-clause-words c = words_as_worked

pub returns-clause-left : goal.returns-clause-left
returns-clause-left c = left_as_worked

pub returns-clause-objects : goal.returns-clause-objects
returns-clause-objects c = objects_as_worked

pub returns-clause-runs : goal.returns-clause-runs
returns-clause-runs c = runs_as_worked
