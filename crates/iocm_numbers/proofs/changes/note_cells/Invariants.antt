-- The number cells of the rows so far.
use Rattle.std.proofs.Common.{◌≡◌, ◌++◌, map, take}
use Rattle.iocm_numbers.specs.NumberChanges.{freed_cell, given_cell}
use Rattle.iocm_numbers.proofs.changes.note_cells.Given as goal

abbrev pub invariant-loop-row : goal.invariant-loop-row
invariant-loop-row g l = l.noted.items ≡ map freed_cell (take l.row-index l.freed)

abbrev pub invariant-loop-row-2 : goal.invariant-loop-row-2
invariant-loop-row-2 g l = l.noted.items ≡ map freed_cell l.freed ++ map given_cell (take l.row-index l.given)
