-- What a round's threads are given, and what they have made, may go from one thread to another.
use denote.RattleType.{RattleType}
use denote.Param.Send.{IsSend, sendable}
use denote.Param.SendFields.{declared_send}
use Rattle.std.proofs.Crossing.{crosses}
use Rattle.iocm_board.specs.declared.identity.Identity.{Ghosts}
use Rattle.iocm_core.proofs.Sends.{call_send}
use Rattle.iocm_queue.proofs.operator.Finished.TheSendSync as finished
use Rattle.iocm_queue.proofs.operator.Operator.TheSendSync as operator
use Rattle.iocm_queue.proofs.worker.Worker.TheSendSync as worker
use Rattle.iocm_system.proofs.Sends.{caller_send, receipt_send}
use Rattle.iocm_types.proofs.rule.Rule.TheSendSync as rule
use Rattle.iocm_rounds.specs.contracts.images.Image as Image
use Rattle.iocm_rounds.specs.contracts.images.Images as Images
use Rattle.iocm_rounds.specs.contracts.images.Task as Task
use Rattle.iocm_rounds.specs.contracts.images.Tasks as Tasks
use Rattle.iocm_rounds.specs.contracts.office.Office as Office
use Rattle.iocm_rounds.specs.contracts.office.OfficeTask as OfficeTask
use Rattle.iocm_rounds.specs.contracts.office.Operators as Operators
use Rattle.iocm_rounds.specs.contracts.operators.Sent as Sent
use Rattle.iocm_rounds.specs.contracts.worker.Work as Work

module _ (B : RattleType) (i : Ghosts B.Denot) where
  pub image_send : IsSend (Image.the_row B i)
  image_send = declared_send (Image.the_type B i) (
    caller_send B i,
    (
      search (receipt_send, crosses, sendable) depth 20,
      (search (rule.the_send, crosses, sendable) depth 20, tt),
    ),
  )

  pub task_send : IsSend (Task.the_row B i)
  task_send = declared_send (Task.the_type B i) (caller_send B i, (search (call_send, crosses, sendable) depth 20, tt))

  pub work_send : IsSend (Work.the_row B i)
  work_send = declared_send (Work.the_type B i) (
    caller_send B i,
    (
      search (worker.the_send, call_send, crosses, sendable) depth 20,
      (
        search (receipt_send, crosses, sendable) depth 20,
        (
          search (receipt_send, crosses, sendable) depth 20,
          (search (rule.the_send, crosses, sendable) depth 20, tt),
        ),
      ),
    ),
  )

  pub office_send : IsSend (Office.the_row B i)
  office_send = declared_send (Office.the_type B i) (
    caller_send B i,
    (
      search (receipt_send, crosses, sendable) depth 20,
      (search (receipt_send, crosses, sendable) depth 20, (search (rule.the_send, crosses, sendable) depth 20, tt)),
    ),
  )

  pub office_task_send : IsSend (OfficeTask.the_row B i)
  office_task_send = declared_send (OfficeTask.the_type B i) (
    caller_send B i,
    (
      search (operator.the_send, worker.the_send, call_send, crosses, sendable) depth 20,
      (search (call_send, crosses, sendable) depth 20, (search (call_send, crosses, sendable) depth 20, tt)),
    ),
  )
