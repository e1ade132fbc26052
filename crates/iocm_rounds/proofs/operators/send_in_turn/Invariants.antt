use Rattle.std.proofs.Common.{◌≡◌, ◌≤◌, ◌++◌, length}
use Rattle.iocm_rounds.proofs.operators.send_in_turn.Given as goal

-- what was sent, and then what is left, are all calls
abbrev pub invariant-loop-calls : goal.invariant-loop-calls
invariant-loop-calls g l =
    (l.operator.channel ≡ l.initial.operator.channel) × (l.operator.number ≡ l.initial.operator.number)
    × (length l.calls.items ≤ length l.initial.calls.items) × (l.initial.calls.items ≡ l.operator.sent ++ l.calls.items)

abbrev pub decreases-loop-calls : goal.decreases-loop-calls
decreases-loop-calls g l = length l.calls.items
