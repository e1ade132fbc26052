-- The laws are proved of the definitions.
use Rattle.iocm_difference_laws.proofs.Least.{names_the_least, names_none_with_room}
use Rattle.iocm_difference_laws.proofs.laws.the_least_device_without_room_is_named.Goals as goal

pub returns-clause-least : goal.returns-clause-least
returns-clause-least c = names_the_least

pub returns-clause-none : goal.returns-clause-none
returns-clause-none c = names_none_with_room
