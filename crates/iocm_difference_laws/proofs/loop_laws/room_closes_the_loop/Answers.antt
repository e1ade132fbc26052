-- The laws are proved of the definitions.
use Rattle.iocm_difference_laws.proofs.LoopRoom as room
use Rattle.iocm_difference_laws.proofs.loop_laws.room_closes_the_loop.Goals as goal

pub returns-clause-refused : goal.returns-clause-refused
returns-clause-refused c = room.no_room_is_refused

pub returns-clause-closes : goal.returns-clause-closes
returns-clause-closes c = room.room_closes_the_loop
