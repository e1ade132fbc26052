-- The subchannels of the changes so far.
use Rattle.std.proofs.Common.{◌≡◌, ◌++◌, take}
use Rattle.iocm_activate.specs.Effects.{subchannels_changed}
use Rattle.iocm_activate.proofs.effect.list_subchannels.Given as goal

abbrev pub invariant-loop-change : goal.invariant-loop-change
invariant-loop-change l = l.listed.items ≡ l.initial.listed.items ++ subchannels_changed (take l.change-index l.changes)
