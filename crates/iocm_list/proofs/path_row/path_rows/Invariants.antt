-- The rows so far, with those that the records that are left give, are all.
use Rattle.std.proofs.Common.{◌≡◌, ◌++◌}
use Rattle.iocm_list.specs.PathRows.{rows_among, path_rows}
use Rattle.iocm_list.proofs.path_row.path_rows.Given as goal

abbrev pub invariant-loop-entry : goal.invariant-loop-entry
invariant-loop-entry l =
    l.rows.items ++ rows_among l.filters l.config.records l.entry-iterator ≡ path_rows l.filters l.config.records
