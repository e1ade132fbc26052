-- The law is proved of the definitions.
use Rattle.iocm_model.proofs.Numbers.Cells.{cells_give_numbers}
use Rattle.iocm_model.proofs.number_laws.cells_are_the_numbers.Goals as goal

pub returns : goal.returns
returns c = cells_give_numbers
