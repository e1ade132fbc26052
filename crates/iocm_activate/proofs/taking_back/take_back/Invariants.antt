use Rattle.std.proofs.Common.{◌≡◌, length}
use Rattle.iocm_activate.proofs.Taking.{IsTaking}
use Rattle.iocm_activate.proofs.taking_back.take_back.Given as goal

abbrev pub invariant-loop-applied : goal.invariant-loop-applied
invariant-loop-applied l =
    IsTaking l.mark.done l.initial.plant l.initial.log.done.items l.plant l.log.done.items
    × (l.log.keys ≡ l.initial.log.keys)

abbrev pub decreases-loop-applied : goal.decreases-loop-applied
decreases-loop-applied l = length l.log.done.items
