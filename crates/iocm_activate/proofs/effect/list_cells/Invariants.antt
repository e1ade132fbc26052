-- The number cells of the changes so far.
use Rattle.std.proofs.Common.{◌≡◌, ◌++◌, take}
use Rattle.iocm_activate.specs.Effects.{cells_changed}
use Rattle.iocm_activate.proofs.effect.list_cells.Given as goal

abbrev pub invariant-loop-change : goal.invariant-loop-change
invariant-loop-change l = l.listed.items ≡ l.initial.listed.items ++ cells_changed (take l.change-index l.changes)
