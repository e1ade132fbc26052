use Rattle.std.proofs.Common.{ap, ◌∙◌}
use Rattle.std.specs.List.{list_any}
use Rattle.std.specs.Ordering.{eq_by_cmp}
use Rattle.iocm_types.specs.Place.{cell_cmp}
use Rattle.iocm_types.specs.KeyOrder.{cells_total, cells_exact}
use Rattle.iocm_model.specs.Machine.Numbering.{cells_of}
use Rattle.iocm_activate.specs.Cells.{cells_in}
use Rattle.iocm_activate.proofs.Values.{listed_cells, values_rise, with_values}
use Rattle.iocm_activate.proofs.effect.written_numbers.Goals as goal

pub of-requires : goal.of-requires
of-requires c = values_rise (cells_of c.args.numbers.now.numbers) c.as_slice.result.now c.in_ok-once.once.items
    c.in_ok-listed.listed.items
    c.in_ok-listed.ensures c.as_slice.ensures.value c.in_ok-once.ensures.order

pub returns : goal.returns
returns c = ap (λ cells. cells_in cell_cmp cells) c.of.ensures
    ∙ listed_cells cells_total cells_exact (cells_of c.args.numbers.now.numbers) _ c.in_ok-once.once.items
    c.in_ok-listed.listed.items
    (c.in_ok-listed.ensures ∙ ap (λ keys. with_values (cells_of c.args.numbers.now.numbers) keys)
    c.as_slice.ensures.value)
    c.in_ok-once.ensures.order
    (λ q. c.in_ok-once.ensures.same q ∙ ap (list_any (eq_by_cmp cell_cmp q)) c.in_ok-list_changed.ensures)
