-- The subchannels of the edits so far, and those of the edits that are left.
use Rattle.std.proofs.Common.{◌≡◌, ◌++◌, drop, map}
use Rattle.iocm_activate.specs.Effects.{subchannels_told}
use Rattle.iocm_activate.specs.Told.{told_in}
use Rattle.iocm_activate.proofs.effect.list_altered.Given as goal

abbrev pub invariant-loop-applied : goal.invariant-loop-applied
invariant-loop-applied l =
    l.listed.items ++ subchannels_told (map told_in (drop l.applied-index l.done))
    ≡ subchannels_told (map told_in l.done)
