-- The system and what an image is to do may go to another thread.
use denote.Param.Send.{sendable}
use Rattle.std.proofs.Crossing.{crosses}
use Rattle.iocm_system.proofs.Sends.{system_sync}
use Rattle.iocm_rounds.proofs.Sends.{image_send, task_send}
use Rattle.iocm_rounds.proofs.images.run_images.Goals as goal

pub join-b-requires-send-F : goal.join-b-requires-send-F
join-b-requires-send-F g c κs within = search (task_send, system_sync, c.type_bounds, crosses, sendable) depth 20

pub join-b-requires-send-A : goal.join-b-requires-send-A
join-b-requires-send-A g c κs within = search (image_send, crosses, sendable) depth 20
