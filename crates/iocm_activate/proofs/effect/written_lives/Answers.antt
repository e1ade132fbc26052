use Rattle.std.proofs.Common.{ap, ◌∙◌}
use Rattle.std.specs.List.{list_any}
use Rattle.std.specs.Ordering.{eq_by_cmp}
use Rattle.iocm_types.specs.SubId.{sub_id_cmp}
use Rattle.iocm_types.specs.KeyOrder.{sub_ids_total, sub_ids_exact}
use Rattle.iocm_activate.specs.Cells.{cells_in}
use Rattle.iocm_activate.proofs.Values.{listed_cells, values_rise, with_values}
use Rattle.iocm_activate.proofs.effect.written_lives.Goals as goal

pub of-requires : goal.of-requires
of-requires c = values_rise c.args.plant.now.state.lives c.as_slice.result.now c.in_ok-once.once.items
    c.in_ok-listed.listed.items
    c.in_ok-listed.ensures c.as_slice.ensures.value c.in_ok-once.ensures.order

pub returns : goal.returns
returns c = ap (λ cells. cells_in sub_id_cmp cells) c.of.ensures
    ∙ listed_cells sub_ids_total sub_ids_exact c.args.plant.now.state.lives _ c.in_ok-once.once.items
    c.in_ok-listed.listed.items
    (c.in_ok-listed.ensures ∙ ap (λ keys. with_values c.args.plant.now.state.lives keys) c.as_slice.ensures.value)
    c.in_ok-once.ensures.order
    (λ q. c.in_ok-once.ensures.same q ∙ ap (list_any (eq_by_cmp sub_id_cmp q)) c.in_ok-list_altered.ensures)
