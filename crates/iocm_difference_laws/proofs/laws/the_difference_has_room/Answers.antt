-- The laws are proved of the definitions.
use Rattle.iocm_difference_laws.proofs.Room.{difference_has_room, room_is_enough}
use Rattle.iocm_difference_laws.proofs.laws.the_difference_has_room.Goals as goal

pub returns-clause-room : goal.returns-clause-room
returns-clause-room c = difference_has_room

pub returns-clause-accepted : goal.returns-clause-accepted
returns-clause-accepted c = room_is_enough
