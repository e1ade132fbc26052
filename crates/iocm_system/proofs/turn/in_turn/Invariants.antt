use Rattle.std.proofs.Common.{◌≡◌, length}
use Rattle.iocm_system.specs.Turns.{IsTurn}
use Rattle.iocm_system.proofs.turn.in_turn.Given as goal

abbrev pub invariant-loop-call : goal.invariant-loop-call
invariant-loop-call g l =
    (l.me.tag ≡ l.initial.me.tag) × IsTurn l.initial.calls.items l.initial.me l.me l.receipts.items l.calls.items

abbrev pub decreases-loop-call : goal.decreases-loop-call
decreases-loop-call g l = length l.calls.items
