-- The law is proved of the definitions.
use Rattle.iocm_model.proofs.Numbers.Opening as opening
use Rattle.iocm_model.proofs.number_laws.reached_places_are_of_devices.Goals as goal

pub returns : goal.returns
returns c = opening.reached_places_are_of_devices
