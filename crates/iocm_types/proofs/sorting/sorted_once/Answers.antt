-- The order of a key by its name is that by which it is compared.
use Rattle.std.proofs.Common.{◌≡◌, subst}
use Rattle.std.specs.List.{list_any}
use Rattle.std.specs.List.Sorted.{IsStrictlySortedBy}
use Rattle.std.specs.Ordering.{eq_by_cmp}
use Rattle.iocm_types.proofs.Once.{rise, same_ones}
use Rattle.iocm_types.proofs.sorting.sorted_once.Goals as goal

pub returns-clause-order : goal.returns-clause-order
returns-clause-order g c = subst (λ R. IsStrictlySortedBy R c.dedup.new.self.items) g.met.K.TableKey.is_cmp
    (rise g.K.Ord.cmp g.met.K.Ord.total g.met.K.TableKey.exact g.K.PartialEq.eq g.met.K.Ord.matches_eq
    c.sort.new.self.items c.dedup.new.self.items c.dedup.ensures.filtered c.in_ok-sort.ensures.sorted)

pub returns-clause-same : goal.returns-clause-same
returns-clause-same g c k = subst
    (λ R. list_any (eq_by_cmp R k) c.dedup.new.self.items ≡ list_any (eq_by_cmp R k) c.args.keys.items)
    g.met.K.TableKey.is_cmp
    (same_ones g.K.Ord.cmp g.met.K.Ord.total g.met.K.TableKey.exact g.K.PartialEq.eq g.met.K.Ord.matches_eq
    c.sort.new.self.items c.dedup.new.self.items c.dedup.ensures.filtered c.args.keys.items
    c.sort.ensures.permutation k)
