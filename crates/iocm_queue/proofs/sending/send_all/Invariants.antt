use Rattle.std.proofs.Common.{◌≡◌, ◌++◌, length}
use Rattle.iocm_queue.proofs.sending.send_all.Given as goal

-- what was sent, and then what is left, is all that is to be sent
abbrev pub invariant-loop-line : goal.invariant-loop-line
invariant-loop-line g l =
    (l.operator.channel ≡ l.initial.operator.channel) × (l.operator.number ≡ l.initial.operator.number)
    × (l.operator.sent ++ l.lines.items ≡ l.initial.operator.sent ++ l.initial.lines.items)

abbrev pub decreases-loop-line : goal.decreases-loop-line
decreases-loop-line g l = length l.lines.items
