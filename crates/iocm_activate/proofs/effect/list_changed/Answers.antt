use Rattle.std.proofs.Common.{◌≤◌, ◌+◌, ◌++◌, length, drop, map, sym, ap, ◌∙◌, arith}
use Rattle.std.proofs.lemmas.List.{append-nil, append_assoc, drop_all}
use Rattle.iocm_types.proofs.Lists.{drop-item}
use Rattle.iocm_activate.specs.Effects.{cells_changed, numbers_told}
use Rattle.iocm_activate.specs.Told.{told_in}
use Rattle.iocm_activate.proofs.effect.list_changed.Goals as goal

pub loop-applied-preserved : goal.loop-applied-preserved
loop-applied-preserved c =
    let later = numbers_told (map told_in (drop (c.loop-applied.applied-index + 1) c.args.done.now)) in
    let here = cells_changed c.applied-item.result.touched.numbers.items in
    ap (λ xs. xs ++ later) (c.in_ok-list_cells.ensures
    ∙ ap (λ cs. c.loop-applied.listed.items ++ cells_changed cs) c.as_slice.ensures.value)
    ∙ append_assoc c.loop-applied.listed.items here later
    ∙ ap (λ ds. c.loop-applied.listed.items ++ numbers_told (map told_in ds))
    (sym (drop-item c.args.done.now c.loop-applied.applied-index c.applied-item.result c.loop-applied-test.true
    c.applied-item.is))
    ∙ c.loop-applied.invariant

pub returns : goal.returns
returns c =
    let past : length c.args.done.now ≤ c.loop-applied.applied-index = omega (arith, c.loop-applied-test.false) in
    sym (append-nil c.loop-applied.listed.items)
    ∙ sym (ap (λ ds. c.loop-applied.listed.items ++ numbers_told (map told_in ds))
    (drop_all c.loop-applied.applied-index c.args.done.now past))
    ∙ c.loop-applied.invariant
