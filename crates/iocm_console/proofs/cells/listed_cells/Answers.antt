use Rattle.std.proofs.Common.{[], ◌∷◌, ◌++◌, take, sym, ap, ◌∙◌}
use Rattle.std.proofs.lemmas.List.{take_more}
use Rattle.iocm_console.proofs.cells.listed_cells.Goals as goal

pub loop-row-preserved : goal.loop-row-preserved
loop-row-preserved c = record {
  cells = c.in_ok-add_compared.ensures.cells ∙ (λ i. c.loop-row.invariant.cells i ++ c.row-item.result ∷ [])
      ∙ sym (take_more c.args.taken.now c.loop-row.row-index c.row-item.result c.loop-row-test.true
      ∙ ap (λ e. take c.loop-row.row-index c.args.taken.now ++ e ∷ []) (sym c.row-item.is));
  compared = c.in_ok-add_compared.ensures.compared;
  records = c.add_compared.ensures.records ∙ c.loop-row.invariant.records;
}
