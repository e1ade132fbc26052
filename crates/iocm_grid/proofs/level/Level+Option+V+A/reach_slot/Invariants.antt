-- The list has become longer, by slots without rows.
use Rattle.std.proofs.Common.{◌+◌, ◌-◌, length}
use Rattle.iocm_grid.specs.Level.{IsLonger, is_empty}
use Rattle.iocm_grid.proofs.level.Level+Option+V+A.reach_slot.Given as goal

abbrev pub invariant-loop-self : goal.invariant-loop-self
invariant-loop-self g l = IsLonger is_empty l.initial.self-inside.items.items l.self-inside.items.items

abbrev pub decreases-loop-self : goal.decreases-loop-self
decreases-loop-self g l = (l.index + 1) - length l.self-inside.items.items
