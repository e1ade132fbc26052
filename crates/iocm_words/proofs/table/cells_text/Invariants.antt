use Rattle.std.proofs.Common.{◌≡◌, ◌++◌, drop}
use Rattle.iocm_words.specs.Table as meaning
use Rattle.iocm_words.proofs.table.cells_text.Given as goal

-- the cells so far, and those that are left
abbrev pub invariant-loop-place : goal.invariant-loop-place
invariant-loop-place l =
    l.text.items ++ meaning.cells_text (drop l.place l.measures) (drop l.place (meaning.cells_of l.row))
    ≡ meaning.cells_text l.measures (meaning.cells_of l.row)
