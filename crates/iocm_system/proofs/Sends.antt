-- A system may be shared among threads, and a caller and what came of its calls may go from one to
-- another.
use denote.RattleType.{RattleType}
use denote.Param.Send.{IsSend, IsSync, view_send, sendable}
use denote.Param.SendFields.{declared_send, declared_sync}
use Rattle.std.proofs.Crossing.{crosses}
use Rattle.atomic_table.proofs.shared.Seat.TheSendSync as place
use Rattle.atomic_table.proofs.owned.Table.TheSendSync as table
use Rattle.iocm_board.specs.contracts.board.Board as Board
use Rattle.iocm_board.specs.contracts.seat.Seat as Seat
use Rattle.iocm_board.specs.contracts.seat.Seat.TheInside as seat_inside
use Rattle.iocm_board.specs.declared.identity.Identity.{Ghosts}
use Rattle.iocm_core.proofs.Sends.{core_send, entry_send}
use Rattle.iocm_types.proofs.answer.Answer.TheSendSync as answer
use Rattle.iocm_types.proofs.rule.Rule.TheSendSync as rule
use Rattle.iocm_system.specs.contracts.asked.Asked as Asked
use Rattle.iocm_system.specs.contracts.caller.Caller as Caller
use Rattle.iocm_system.specs.contracts.caller.Caller.TheInside as caller_inside
use Rattle.iocm_system.specs.contracts.desk.Desk as Desk
use Rattle.iocm_system.specs.contracts.desk.Desk.TheInside as desk_inside
use Rattle.iocm_system.specs.contracts.receipt.Back as Back
use Rattle.iocm_system.specs.contracts.receipt.Receipt as Receipt
use Rattle.iocm_system.specs.contracts.system.System as System
use Rattle.iocm_system.specs.contracts.turn.Ran as Ran
use Rattle.iocm_system.specs.contracts.turn.Turn as Turn

asked_send : IsSend Asked.the_row
asked_send = search (crosses, sendable) depth 60 fits 20000

pub receipt_send : IsSend Receipt.the_row
receipt_send = declared_send Receipt.the_type (search sendable depth 20, (asked_send, (answer.the_send, tt)))

module _ (B : RattleType) (i : Ghosts B.Denot) where
  seat_send : IsSend (Seat.the_row B i)
  seat_send = view_send _ _ _ _ _
      (declared_send (seat_inside.the_type B i) (
        search (entry_send, place.the_send, crosses, sendable) depth 20,
        (search sendable depth 20, (search (crosses, sendable) depth 20, tt)),
      ))

  pub caller_send : IsSend (Caller.the_row B i)
  caller_send = view_send _ _ _ _ _ (declared_send (caller_inside.the_type B i) (seat_send, tt))

  desk_send : IsSend (Desk.the_row B i)
  desk_send = view_send _ _ _ _ _ (declared_send (desk_inside.the_type B i) (core_send, (seat_send, tt)))

  board_sync : IsSync (Board.the_row B i)
  board_sync = declared_sync (Board.the_type B i) (
    search (entry_send, table.the_sync, crosses, sendable) depth 20,
    (search sendable depth 20, (search (crosses, sendable) depth 20, tt)),
  )

  pub system_sync : IsSync (System.the_row B i)
  system_sync = declared_sync (System.the_type B i)
      (board_sync, (search (desk_send, crosses, sendable) depth 20, (search (crosses, sendable) depth 20, tt)))
