use Rattle.std.proofs.Common.{sym, subst, ap, ◌∙◌}
use Rattle.std.specs.FinMap.{get}
use Rattle.std.specs.List.Sorted.{IsStrictlySortedBy}
use Rattle.std.specs.Map.{keys_of}
use Rattle.iocm_types.proofs.InOrder.{rows_sorted}
use Rattle.iocm_activate.specs.Cells.{cells_in}
use Rattle.iocm_activate.proofs.written.Written.get.Goals as goal

pub value_under-requires : goal.value_under-requires
value_under-requires g c = rows_sorted g.K.TableKey.order c.as_slice.result.now
    (subst (λ cells. IsStrictlySortedBy g.K.TableKey.order (keys_of cells)) (sym c.as_slice.ensures.value)
    c.self.invariant)

pub returns : goal.returns
returns g c = c.value_under.ensures
    ∙ ap (λ cells. get (cells_in g.K.TableKey.order cells) c.args.key.now) (c.as_slice.ensures.value ∙ c.self.view_is)
