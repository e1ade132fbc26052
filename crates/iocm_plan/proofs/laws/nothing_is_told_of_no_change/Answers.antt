-- Nothing is told of a configuration and itself.
use Rattle.iocm_plan.proofs.Itself.{told_of_itself, no_object_of_itself}
use Rattle.iocm_plan.proofs.laws.nothing_is_told_of_no_change.Goals as goal

pub returns-clause-seen : goal.returns-clause-seen
returns-clause-seen c = told_of_itself

pub returns-clause-objects : goal.returns-clause-objects
returns-clause-objects c = no_object_of_itself
