use Rattle.iocm_operands.proofs.Operands.{number_again, cuadd_again, first_address_again, set_again}
use Rattle.iocm_operands.proofs.laws.numbers_are_read_again.Goals as goal

pub returns : goal.returns
returns c = record { number = number_again; cuadd = cuadd_again; first_address = first_address_again; set = set_again }
