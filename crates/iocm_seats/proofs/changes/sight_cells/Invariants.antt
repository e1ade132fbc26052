-- The sights so far and those of the cells that are left.
use Rattle.std.proofs.Common.{◌≡◌, ◌++◌, drop, map}
use Rattle.iocm_reach.specs.SightedCells.{sighted_cell}
use Rattle.iocm_seats.proofs.changes.sight_cells.Given as goal

abbrev pub invariant-loop-cell : goal.invariant-loop-cell
invariant-loop-cell g l = let sight = sighted_cell l.tried.config.now.records l.tried.numbers.now.numbers in
    l.sights.items ++ map sight (drop l.cell-index l.cells) ≡ map sight l.cells
