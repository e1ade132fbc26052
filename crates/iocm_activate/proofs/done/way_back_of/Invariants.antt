use Rattle.std.proofs.Common.{length}
use Rattle.iocm_activate.proofs.Telling.{IsTurning}
use Rattle.iocm_activate.proofs.done.way_back_of.Given as goal

abbrev pub invariant-loop-applied : goal.invariant-loop-applied
invariant-loop-applied l = IsTurning l.initial.done.items l.leaves l.done.items

abbrev pub decreases-loop-applied : goal.decreases-loop-applied
decreases-loop-applied l = length l.done.items
