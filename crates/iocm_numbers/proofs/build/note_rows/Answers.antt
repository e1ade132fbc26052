-- One row more is noted.
use Rattle.iocm_numbers.proofs.Built.{notes_one}
use Rattle.iocm_numbers.proofs.build.note_rows.Goals as goal

pub loop-row-preserved : goal.loop-row-preserved
loop-row-preserved c = notes_one c.args.rows.now c.loop-row.row-index c.args.words.now c.loop-row.words
    c.note_row.new.words c.row-item.result
    c.loop-row-test.true c.row-item.is c.loop-row.invariant c.note_row.ensures.bits c.note_row.ensures.small
    c.note_row.ensures.len
