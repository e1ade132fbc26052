use Rattle.std.proofs.Common.{◌∙◌, ap, ◌++◌}
use Rattle.iocm_words.specs.Table.{columns_of, lines, measures, rows_of}
use Rattle.iocm_words.proofs.Cells.{lines_from_start, measures_from, measures_more}
use Rattle.iocm_words.proofs.table.measures.Goals as goal

pub loop-place-init : goal.loop-place-init
loop-place-init c =
    let columns = columns_of c.args.columns.now in
    ap (λ ms. ms ++ measures_from c.args.columns.now c.args.rows.now 0) c.new-measures.ensures.items
    ∙ ap (measures columns) (lines_from_start (lines columns (rows_of c.args.rows.now)))

pub loop-place-preserved : goal.loop-place-preserved
loop-place-preserved c =
    measures_more c.args.columns.now c.args.rows.now c.loop-place.place c.width_at-width.result _
    c.loop-place.measures.items c.push.new.self.items _ c.loop-place-test.true
    c.width_at-width.ensures c.in_ok-push.ensures.items c.loop-place.invariant
