-- Each is computed once the maps are listed.
use Rattle.iocm_examples.proofs.Computed.FirstRefusals.{a_number_for_two, depth_first}
use Rattle.iocm_examples.proofs.refusals.first_refusals_are_as_worked.Goals as goal

pub returns-clause-number : goal.returns-clause-number
returns-clause-number c = a_number_for_two

pub returns-clause-depth : goal.returns-clause-depth
returns-clause-depth c = depth_first
