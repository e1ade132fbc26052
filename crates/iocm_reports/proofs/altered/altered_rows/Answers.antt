use Rattle.std.proofs.Common.{map, sym, ap, subst, ◌∙◌}
use Rattle.std.proofs.lemmas.Result.{IfOk-weaker}
use Rattle.std.specs.List.Sorted.{IsStrictlySortedBy}
use Rattle.std.specs.Map.{keys_of}
use Rattle.iocm_types.specs.SubId.{sub_id_cmp}
use Rattle.iocm_reports.specs.Altered.{AreInOrder}
use Rattle.iocm_reports.specs.Gathered.{row_of}
use Rattle.iocm_reports.proofs.AlteredRows.{rows_are, made_in_order}
use Rattle.iocm_reports.proofs.altered.altered_rows.Goals as goal

pub returns-clause-rows : goal.returns-clause-rows
returns-clause-rows c =
    let first = c.in_ok-first.first in
    let after = c.args.plant.now.state in
    λ es s told. IfOk-weaker c.list_rows.result _ _
    (λ listed is. is ∙ ap (map (row_of after)) c.as_slice.ensures.value
    ∙ rows_are c.args.performed.now first.items c.in_ok-first.ensures.order c.in_ok-first.ensures.first es s after told)
    c.list_rows.ensures

pub returns-clause-order : goal.returns-clause-order
returns-clause-order c =
    let rise = subst (λ rows. IsStrictlySortedBy sub_id_cmp (keys_of rows)) (sym c.as_slice.ensures.value)
    c.in_ok-first.ensures.order in
    IfOk-weaker c.list_rows.result _ _
    (λ listed is. subst AreInOrder (sym is) (made_in_order c.as_slice.result.now c.args.plant.now.state rise))
    c.list_rows.ensures
