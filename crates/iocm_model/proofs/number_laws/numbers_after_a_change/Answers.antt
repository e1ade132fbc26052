-- The laws are proved of the definitions.
use Rattle.iocm_model.proofs.Numbers.FromNone.{opening_is_from_none}
use Rattle.iocm_model.proofs.Numbers.Rest.{rest_get_the_lowest}
use Rattle.iocm_model.proofs.Numbers.Changed.{numbers_after_are_exact, stayers_keep_theirs, carried_come_back}
use Rattle.iocm_model.proofs.number_laws.numbers_after_a_change.Goals as goal

pub returns-clause-exact : goal.returns-clause-exact
returns-clause-exact c = numbers_after_are_exact

pub returns-clause-stay : goal.returns-clause-stay
returns-clause-stay c = stayers_keep_theirs

pub returns-clause-come_back : goal.returns-clause-come_back
returns-clause-come_back c = carried_come_back

pub returns-clause-rest : goal.returns-clause-rest
returns-clause-rest c = rest_get_the_lowest

pub returns-clause-opening : goal.returns-clause-opening
returns-clause-opening c = opening_is_from_none
