-- The rows so far.
use Rattle.std.proofs.Common.{◌≡◌, map, take}
use Rattle.iocm_reports.specs.Gathered.{row_of}
use Rattle.iocm_reports.proofs.altered.list_rows.Given as goal

abbrev pub invariant-loop-row : goal.invariant-loop-row
invariant-loop-row l = l.listed.items ≡ map (row_of l.plant.state) (take l.row-index l.first)
