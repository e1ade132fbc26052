-- The subchannels so far, with their live records.
use Rattle.std.proofs.Common.{◌≡◌, take, map}
use Rattle.iocm_activate.specs.OnlyEdit.{live_at}
use Rattle.iocm_activate.proofs.only_edit.list_lives.Given as goal

abbrev pub invariant-loop-change : goal.invariant-loop-change
invariant-loop-change l = l.listed.items ≡ map (live_at l.plant.state.lives) (take l.change-index l.changes)
