use Rattle.std.proofs.Common.{◌≡◌}
use Rattle.iocm_queue.proofs.sending.end.Given as goal

abbrev pub invariant-loop : goal.invariant-loop
invariant-loop g l = l.operator ≡ l.initial.operator
