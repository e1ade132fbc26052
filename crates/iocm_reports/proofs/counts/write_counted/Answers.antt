-- The line of the change, and those of the images.
use Rattle.iocm_console.proofs.Printing.{writes_then}
use Rattle.iocm_reports.proofs.counts.write_counted.Goals as goal

pub returns : goal.returns
returns g c = writes_then c.in_ok-write_change.ensures c.write_counts.ensures
