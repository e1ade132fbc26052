use Rattle.iocm_model.proofs.Rules.FirstBreach.{answers_the_first, answers_none}
use Rattle.iocm_model.proofs.Rules.LeastBreach.{answers_the_least}
use Rattle.iocm_model.proofs.rule_laws.the_first_breach_is_first.Goals as goal

pub returns-clause-found : goal.returns-clause-found
returns-clause-found c = answers_the_first

pub returns-clause-none : goal.returns-clause-none
returns-clause-none c = answers_none

pub returns-clause-least : goal.returns-clause-least
returns-clause-least c = answers_the_least
