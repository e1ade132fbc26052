-- The laws are proved of the definitions.
use Rattle.iocm_difference.proofs.Differences.{difference_is_least, nothing_differs}
use Rattle.iocm_difference.proofs.laws.no_actions_are_fewer.Goals as goal

pub returns-clause-least : goal.returns-clause-least
returns-clause-least c = difference_is_least

pub returns-clause-itself : goal.returns-clause-itself
returns-clause-itself c = nothing_differs
