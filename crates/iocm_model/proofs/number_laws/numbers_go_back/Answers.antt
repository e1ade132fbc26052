-- The laws are proved of the definitions.
use Rattle.iocm_model.proofs.Numbers.Back.{renumbering_goes_back}
use Rattle.iocm_model.proofs.Numbers.Freed.{freed_are_not_taken}
use Rattle.iocm_model.proofs.number_laws.numbers_go_back.Goals as goal

pub returns-clause-back : goal.returns-clause-back
returns-clause-back c = renumbering_goes_back

pub returns-clause-free : goal.returns-clause-free
returns-clause-free c = freed_are_not_taken
