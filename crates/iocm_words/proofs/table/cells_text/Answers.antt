use Rattle.iocm_words.specs.Table.{cells_of}
use Rattle.iocm_words.proofs.Cells.{cells_more}
use Rattle.iocm_words.proofs.table.cells_text.Goals as goal

pub loop-place-preserved : goal.loop-place-preserved
loop-place-preserved c =
    cells_more c.args.measures.now (cells_of c.args.row.now) c.loop-place.place _ c.cell_at.result.now
    c.loop-place.text.items c.put_cell.new.text.items c.put_blanks.new.text.items _ c.loop-place-test.true
    c.cell_at.ensures c.in_ok-put_cell.ensures c.in_ok-put_blanks.ensures c.loop-place.invariant
