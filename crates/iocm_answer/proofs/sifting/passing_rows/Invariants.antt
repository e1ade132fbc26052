-- The rows so far that pass.
use Rattle.std.proofs.Common.{◌≡◌, filter, take}
use Rattle.iocm_answer.specs.Sides.{does_row_pass}
use Rattle.iocm_answer.proofs.sifting.passing_rows.Given as goal

abbrev pub invariant-loop-row : goal.invariant-loop-row
invariant-loop-row l = l.found.items ≡ filter (does_row_pass l.before l.after) (take l.row-index l.rows)
