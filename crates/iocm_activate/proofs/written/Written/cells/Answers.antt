use Rattle.std.proofs.Common.{sym, subst, ◌∙◌}
use Rattle.std.specs.FinMap.{entries-from_sorted}
use Rattle.std.specs.List.Sorted.{IsStrictlySortedBy}
use Rattle.std.specs.Map.{keys_of}
use Rattle.iocm_types.proofs.InOrder.{rows_sorted}
use Rattle.iocm_activate.proofs.written.Written.cells.Goals as goal

pub returns-clause-entries : goal.returns-clause-entries
returns-clause-entries g c = c.as_slice.ensures.value ∙ c.self.view_is
    ∙ sym (entries-from_sorted g.K.TableKey.order c.args.self.now (rows_sorted g.K.TableKey.order c.args.self.now
    (subst (λ cells. IsStrictlySortedBy g.K.TableKey.order (keys_of cells)) c.self.view_is c.self.invariant)))

pub returns-clause-list : goal.returns-clause-list
returns-clause-list g c = c.as_slice.ensures.value ∙ c.self.view_is
