-- The cells of the rows are those of the numbers.
use Rattle.std.proofs.Common.{◌≡◌, ap, subst, ◌∙◌}
use Rattle.std.specs.Prelude.{IfOk}
use Rattle.iocm_numbers.specs.TiedTables.{cells_in}
use Rattle.iocm_numbers.proofs.OpeningCells.{opening_cells_are}
use Rattle.iocm_numbers.proofs.first_cells.opening_cells.Goals as goal

pub returns : goal.returns
returns g c = subst (λ all. IfOk c.list_cells.result (λ cells. cells.items ≡ all))
    (ap cells_in (c.as_slice.ensures.value ∙ c.in_ok-rows.ensures)
    ∙ opening_cells_are c.args.config.now.records c.has_own_keys.ensures)
    c.list_cells.ensures
