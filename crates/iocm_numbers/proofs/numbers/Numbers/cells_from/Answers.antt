use Rattle.std.proofs.Common.{ap, ◌∙◌, ℕ}
use Rattle.std.specs.FinMap.{FinMap, entries}
use Rattle.iocm_types.specs.declared.place.NumberCell.{NumberCell}
use Rattle.iocm_types.specs.Place.{cell_cmp}
use Rattle.iocm_table.specs.Slots.{rows, rows_from}
use Rattle.iocm_model.specs.Machine.Numbering.{cells_of}
use Rattle.iocm_numbers.specs.Numbered.{Numbered, cells_from}
use Rattle.iocm_numbers.proofs.CellsFrom.{rows_are_cells}
use Rattle.iocm_numbers.proofs.numbers.Numbers.cells_from.Goals as goal

pub returns : goal.returns
returns g c =
    c.walk_from.ensures.entries
    ∙ ap (λ (first : NumberCell). rows_from cell_cmp first (entries (rows cell_cmp c.self.inside.cells)))
    c.first_cell.ensures
    ∙ rows_are_cells c.args.css (entries (rows cell_cmp c.self.inside.cells))
    ∙ ap (λ (m : FinMap cell_cmp ℕ). cells_from c.args.css (entries m)) c.self.invariant.same
    ∙ ap (λ (n : Numbered). cells_from c.args.css (entries (cells_of n.numbers))) c.self.view_is
