use Rattle.std.proofs.Common.{◌++◌, sym, ap, ◌∙◌}
use Rattle.std.specs.Map.Iter.{deref_pair}
use Rattle.std.proofs.lemmas.List.{append_assoc}
use Rattle.std.proofs.lemmas.Map.Iter.{rest_more}
use Rattle.iocm_console.specs.Lines.{celled}
use Rattle.iocm_console.proofs.cells.walked_cells.Goals as goal

pub loop-cell-preserved : goal.loop-cell-preserved
loop-cell-preserved c =
    let old = celled c.loop-cell.cells.items in
    record {
      cells = ap (λ xs. xs ++ c.next.new.self) c.in_ok-add_compared.ensures.cells
          ∙ append_assoc old _ c.next.new.self
          ∙ ap (λ xs. old ++ xs)
          (sym (rest_more deref_pair _ _ _ (c.in-Some.cell, c.in-Some.device) c.in-Some.is c.next.ensures.steps))
          ∙ c.loop-cell.invariant.cells;
      compared = c.in_ok-add_compared.ensures.compared;
      records = c.add_compared.ensures.records ∙ c.loop-cell.invariant.records;
    }
