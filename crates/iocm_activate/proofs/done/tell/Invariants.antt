use Rattle.std.proofs.Common.{length}
use Rattle.iocm_activate.proofs.Telling.{IsTelling}
use Rattle.iocm_activate.proofs.done.tell.Given as goal

abbrev pub invariant-loop-applied : goal.invariant-loop-applied
invariant-loop-applied l = IsTelling l.initial.done.items l.parts l.performed l.done.items

abbrev pub decreases-loop-applied : goal.decreases-loop-applied
decreases-loop-applied l = length l.done.items
