use Rattle.std.proofs.Common.{◌≡◌, ◌++◌}
use Rattle.iocm_words.specs.Table.{columns_of, measures_of, rows_of}
use Rattle.iocm_words.proofs.Cells.{measures_from}
use Rattle.iocm_words.proofs.table.measures.Given as goal

-- the measures so far, and those from the place on
abbrev pub invariant-loop-place : goal.invariant-loop-place
invariant-loop-place l =
    l.measures.items ++ measures_from l.columns l.rows l.place ≡ measures_of (columns_of l.columns) (rows_of l.rows)
