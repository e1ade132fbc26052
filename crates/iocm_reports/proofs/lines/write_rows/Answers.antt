use Rattle.std.proofs.Common.{refl}
use Rattle.iocm_console.proofs.Printing.{writes_as, writes_nothing, writes_then}
use Rattle.iocm_reports.specs.Lines.{row_in}
use Rattle.iocm_reports.proofs.Printed.{text_more}
use Rattle.iocm_reports.proofs.lines.write_rows.Goals as goal

pub loop-row-init : goal.loop-row-init
loop-row-init g c = writes_nothing refl

pub loop-row-preserved : goal.loop-row-preserved
loop-row-preserved g c = writes_as (writes_then c.loop-row.invariant c.in_ok-write_row.ensures)
    (text_more (row_in c.args.form) c.args.rows.now c.loop-row.row-index c.row-item.result c.loop-row-test.true c.row-item.is)
