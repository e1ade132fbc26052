-- The laws are proved of the definitions.
use Rattle.iocm_model.proofs.Numbers.Opening.{opening_are_numbers}
use Rattle.iocm_model.proofs.Numbers.Apart.{numbers_after_are_numbers}
use Rattle.iocm_model.proofs.number_laws.no_number_comes_twice.Goals as goal

pub returns-clause-opening : goal.returns-clause-opening
returns-clause-opening c = opening_are_numbers

pub returns-clause-change : goal.returns-clause-change
returns-clause-change c = numbers_after_are_numbers
