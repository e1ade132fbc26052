use Rattle.std.proofs.Common.{◌≡◌, false, filter, ap, sym, subst, ◌∙◌}
use Rattle.std.proofs.lemmas.Result.{IfOk-weaker}
use Rattle.iocm_filter.specs.Wanted.{asks_nothing}
use Rattle.iocm_reports.specs.Altered.{AreInOrder}
use Rattle.iocm_answer.specs.Sides.{does_row_pass}
use Rattle.iocm_answer.proofs.SiftedRows.{all_wanted, order_kept, wanted_pass}
use Rattle.iocm_answer.proofs.sifting.wanted_rows.Goals as goal

pub returns-then-is_none-clause-rows : goal.returns-then-is_none-clause-rows
returns-then-is_none-clause-rows g w before after fits fits_after =
    all_wanted w before after g.args.rows.items
    (ap asks_nothing (sym (g.filters.ensures ∙ fits.asked)) ∙ sym g.is_none.ensures ∙ g.if-is_none.true)

pub returns-clause-rows : goal.returns-clause-rows
returns-clause-rows c w before after fits fits_after =
    let asks : asks_nothing w ≡ false =
    ap asks_nothing (sym (c.filters.ensures ∙ fits.asked)) ∙ sym c.is_none.ensures ∙ c.if-is_none.false in
    IfOk-weaker c.passing_rows.result _ _
    (λ found is. is ∙ ap (filter (does_row_pass c.args.before.now c.args.after.now)) c.as_slice.ensures.value
    ∙ wanted_pass w before after c.args.before.now c.args.after.now fits fits_after asks c.args.rows.items)
    c.passing_rows.ensures

pub returns-clause-order : goal.returns-clause-order
returns-clause-order c order = IfOk-weaker c.passing_rows.result _ _
    (λ found is. subst AreInOrder
    (sym (is ∙ ap (filter (does_row_pass c.args.before.now c.args.after.now)) c.as_slice.ensures.value))
    (order_kept (does_row_pass c.args.before.now c.args.after.now) c.args.rows.items order))
    c.passing_rows.ensures
