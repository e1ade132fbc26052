-- The line of the change, what comes before the rows, and the rows.
use Rattle.iocm_console.proofs.Printing.{writes_then}
use Rattle.iocm_reports.proofs.lines.write_altered.Goals as goal

pub returns : goal.returns
returns g c = writes_then c.in_ok-write_change.ensures
    (writes_then c.in_ok-write_heading.ensures c.write_rows.ensures)
