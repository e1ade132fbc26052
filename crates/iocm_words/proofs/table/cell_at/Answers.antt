use Rattle.std.proofs.Common.{◌∙◌, sym}
use Rattle.iocm_words.proofs.Cells.{first-drop}
use Rattle.iocm_words.proofs.table.cell_at.Goals as goal

pub returns-in-Some : goal.returns-in-Some
returns-in-Some c =
    let found = c.in-Some.ensures.lookup in
    c.as_slice.ensures.value ∙ sym (first-drop c.args.place c.args.row.now c.in-Some.cell.now found.3.0 found.1)
