-- The cells so far are those of the rows before.
use Rattle.std.proofs.Common.{◌≡◌, take}
use Rattle.iocm_numbers.specs.TiedTables.{cells_in}
use Rattle.iocm_numbers.proofs.build.list_cells.Given as goal

abbrev pub invariant-loop-row : goal.invariant-loop-row
invariant-loop-row g l = l.cells.items ≡ cells_in (take l.row-index l.rows)
