-- Those that are left say what all say.
use Rattle.std.proofs.Common.{◌≡◌, drop, reverse}
use Rattle.iocm_activate.specs.CarryingBack.{are_turned_back}
use Rattle.iocm_activate.proofs.carrying_back.are_turned_back.Given as goal

abbrev pub invariant-loop-applied : goal.invariant-loop-applied
invariant-loop-applied l =
    are_turned_back (drop l.applied-index l.done) (reverse l.left) ≡ are_turned_back l.done (reverse l.performed)
