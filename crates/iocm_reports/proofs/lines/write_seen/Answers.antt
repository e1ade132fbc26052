use Rattle.std.proofs.Common.{sym, ◌∙◌}
use Rattle.iocm_console.proofs.Printing.{writes_as, writes_then}
use Rattle.iocm_reports.proofs.Printed.{lines_changed}
use Rattle.iocm_reports.proofs.lines.write_seen.Goals as goal

pub returns : goal.returns
returns g c = writes_as (writes_then c.in_ok-write_signed.ensures c.write_signed-3.ensures)
    (lines_changed c.args.subchannel c.args.old.now c.args.new.now (sym c.eq.ensures ∙ c.if-eq.false))
