-- All that the images and the office are given may go to another thread, and what came of it comes
-- back.
use denote.Param.Send.{sendable}
use Rattle.std.proofs.Crossing as crossing
use Rattle.std.proofs.Crossing.{crosses}
use Rattle.iocm_system.proofs.Sends.{system_sync}
use Rattle.iocm_rounds.proofs.Sends.{office_send, office_task_send}
use Rattle.iocm_rounds.proofs.driving.drive_by.Goals as goal

pub join-office-requires-send-F : goal.join-office-requires-send-F
join-office-requires-send-F g c κs within =
    search (office_task_send, system_sync, crossing.send, crossing.sync, c.type_bounds, crosses, sendable) depth 40

pub join-office-requires-send-A : goal.join-office-requires-send-A
join-office-requires-send-A g c κs within = search (office_send, crosses, sendable) depth 20
