-- The law is proved of the definitions.
use Rattle.iocm_numbers.proofs.CellsThere.{cells_are_listed}
use Rattle.iocm_numbers.proofs.number_laws.numbers_at_places_are_listed.Goals as goal

pub returns : goal.returns
returns c = cells_are_listed
