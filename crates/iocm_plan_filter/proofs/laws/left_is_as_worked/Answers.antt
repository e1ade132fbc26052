-- Each row is computed.
use Rattle.iocm_plan_filter.proofs.Worked.{kinds_as_worked, lost_as_worked, steps_as_worked}
use Rattle.iocm_plan_filter.proofs.laws.left_is_as_worked.Goals as goal

pub returns-clause-steps : goal.returns-clause-steps
returns-clause-steps c = steps_as_worked

pub returns-clause-kinds : goal.returns-clause-kinds
returns-clause-kinds c = kinds_as_worked

pub returns-clause-lost : goal.returns-clause-lost
returns-clause-lost c = lost_as_worked
