-- The number cells of the edits so far, and those of the edits that are left.
use Rattle.std.proofs.Common.{◌≡◌, ◌++◌, drop, map}
use Rattle.iocm_activate.specs.Effects.{numbers_told}
use Rattle.iocm_activate.specs.Told.{told_in}
use Rattle.iocm_activate.proofs.effect.list_changed.Given as goal

abbrev pub invariant-loop-applied : goal.invariant-loop-applied
invariant-loop-applied l =
    l.listed.items ++ numbers_told (map told_in (drop l.applied-index l.done)) ≡ numbers_told (map told_in l.done)
