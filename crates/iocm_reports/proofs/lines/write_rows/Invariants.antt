-- The lines of the rows so far are written.
use Rattle.std.proofs.Common.{take}
use Rattle.std.specs.List.{flat_map}
use Rattle.iocm_console.specs.Output.{Wrote}
use Rattle.iocm_reports.specs.Lines.{row_in}
use Rattle.iocm_reports.proofs.lines.write_rows.Given as goal

abbrev pub invariant-loop-row : goal.invariant-loop-row
invariant-loop-row g l =
    Wrote g.W.Write.contents l.initial.output l.output (flat_map (row_in l.form) (take l.row-index l.rows))
