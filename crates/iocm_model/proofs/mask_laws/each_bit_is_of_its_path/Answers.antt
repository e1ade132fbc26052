-- The laws are proved of the definitions.
use Rattle.iocm_model.proofs.Machine.Masks.{installed_bits, available_bits}
use Rattle.iocm_model.proofs.mask_laws.each_bit_is_of_its_path.Goals as goal

pub returns-clause-installed : goal.returns-clause-installed
returns-clause-installed c = installed_bits

pub returns-clause-available : goal.returns-clause-available
returns-clause-available c = available_bits
