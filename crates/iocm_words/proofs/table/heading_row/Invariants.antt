use Rattle.std.proofs.Common.{◌≡◌, take}
use Rattle.iocm_words.specs.Table as meaning
use Rattle.iocm_words.proofs.table.heading_row.Given as goal

-- the headings so far
abbrev pub invariant-loop-column : goal.invariant-loop-column
invariant-loop-column l =
    meaning.cells_of l.row.items ≡ meaning.heading_row (meaning.columns_of (take l.column-index l.columns))
