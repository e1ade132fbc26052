-- The cells of the rows so far.
use Rattle.std.proofs.Common.{◌≡◌, map, take}
use Rattle.iocm_words.specs.Table.{rows_of}
use Rattle.iocm_list.specs.DeviceCells.{device_cells}
use Rattle.iocm_list.proofs.device_words.cells_of_all.Given as goal

abbrev pub invariant-loop-row : goal.invariant-loop-row
invariant-loop-row l = rows_of l.cells.items ≡ map (device_cells l.all) (take l.row-index l.rows)
