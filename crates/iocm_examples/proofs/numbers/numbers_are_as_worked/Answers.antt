-- Each is computed once the maps are listed.
use Rattle.iocm_examples.proofs.Computed.Numbers.{base_numbers, a_device_comes_in, a_number_is_used_again}
use Rattle.iocm_examples.proofs.Computed.Numbers.{a_number_comes_along, a_second_subsystem}
use Rattle.iocm_examples.proofs.numbers.numbers_are_as_worked.Goals as goal

pub returns-clause-opening : goal.returns-clause-opening
returns-clause-opening c = base_numbers

pub returns-clause-comes_in : goal.returns-clause-comes_in
returns-clause-comes_in c = a_device_comes_in

pub returns-clause-used_again : goal.returns-clause-used_again
returns-clause-used_again c = a_number_is_used_again

pub returns-clause-comes_along : goal.returns-clause-comes_along
returns-clause-comes_along c = a_number_comes_along

pub returns-clause-second : goal.returns-clause-second
returns-clause-second c = a_second_subsystem
