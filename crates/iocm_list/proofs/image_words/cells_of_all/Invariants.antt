-- The cells of the rows so far.
use Rattle.std.proofs.Common.{◌≡◌, map, take}
use Rattle.iocm_words.specs.Table.{rows_of}
use Rattle.iocm_list.specs.DeviceCells.{image_cells}
use Rattle.iocm_list.proofs.image_words.cells_of_all.Given as goal

abbrev pub invariant-loop-row : goal.invariant-loop-row
invariant-loop-row l = rows_of l.cells.items ≡ map image_cells (take l.row-index l.rows)
