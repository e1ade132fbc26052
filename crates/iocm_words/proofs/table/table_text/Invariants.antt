use Rattle.std.proofs.Common.{◌≡◌, take}
use Rattle.std.specs.List.{flat_map}
use Rattle.iocm_words.specs.Table as meaning
use Rattle.iocm_words.proofs.table.table_text.Given as goal

-- the lines of the heading and of the rows so far
abbrev pub invariant-loop-row : goal.invariant-loop-row
invariant-loop-row l =
    l.text.items ≡ flat_map (meaning.line_text l.measures.items)
    (meaning.lines (meaning.columns_of l.columns) (meaning.rows_of (take l.row-index l.rows)))
