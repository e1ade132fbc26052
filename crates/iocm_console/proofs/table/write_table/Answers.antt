-- What comes before the rows, and then the rows.
use Rattle.iocm_console.proofs.Printing.{writes_then}
use Rattle.iocm_console.proofs.table.write_table.Goals as goal

pub returns : goal.returns
returns g c = writes_then c.in_ok-write_opening.ensures
    (rw (c.config.ensures, c.as_slice-cells.ensures.cells) at c.write_rows.ensures)
