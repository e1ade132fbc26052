-- The examples are computed.
use Rattle.iocm_breaches.proofs.Worked.{breaches_of_many, breaches_of_others}
use Rattle.iocm_breaches.proofs.examples.breaches_are_as_worked.Goals as goal

pub returns-clause-many : goal.returns-clause-many
returns-clause-many c = breaches_of_many

pub returns-clause-others : goal.returns-clause-others
returns-clause-others c = breaches_of_others
