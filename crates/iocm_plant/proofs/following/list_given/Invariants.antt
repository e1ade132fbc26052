-- The number cells of the numbers so far.
use Rattle.std.proofs.Common.{◌≡◌, ◌++◌, take}
use Rattle.iocm_plant.specs.Following.{cells_given}
use Rattle.iocm_plant.proofs.following.list_given.Given as goal

abbrev pub invariant-loop-row : goal.invariant-loop-row
invariant-loop-row l = l.cells.items ≡ l.initial.cells.items ++ cells_given (take l.row-index l.given)
