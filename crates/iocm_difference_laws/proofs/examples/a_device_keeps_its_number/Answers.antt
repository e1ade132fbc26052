-- It is computed on states as lists.
use Rattle.iocm_difference_laws.proofs.Worked as proof
use Rattle.iocm_difference_laws.proofs.examples.a_device_keeps_its_number.Goals as goal

pub returns : goal.returns
returns c = proof.a_device_keeps_its_number
