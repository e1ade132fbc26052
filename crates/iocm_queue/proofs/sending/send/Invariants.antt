use Rattle.std.proofs.Common.{◌≡◌}
use Rattle.iocm_queue.proofs.sending.send.Given as goal

-- nothing was sent yet, and the line is at hand
abbrev pub invariant-loop : goal.invariant-loop
invariant-loop g l = (l.operator ≡ l.initial.operator) × (l.line ≡ l.initial.line)
