-- Sorted rows of which the first of each key is kept. The order of a key by its name is that by which
-- it is compared.
use Rattle.std.proofs.Common.{◌≡◌, ap, subst, sym, ◌∙◌, rules}
use Rattle.std.specs.FinMap.{find}
use Rattle.std.specs.List.Sorted.{IsStrictlySortedBy}
use Rattle.std.specs.Map.{keys_of}
use Rattle.std.specs.Ordering.{is_lt}
use Rattle.std.proofs.lemmas.Fn.{dedup_same}
use Rattle.std.proofs.lemmas.List.Sorted.{answers_always}
use Rattle.iocm_types.proofs.FirstOfEach.{first_is_found, first_is_kept, have_one_key, is_below, once_rise, ranks}
use Rattle.iocm_types.proofs.sorting.first_in_order.Goals as goal

pub returns-clause-first : goal.returns-clause-first
returns-clause-first g c k =
    let R = g.K.Ord.cmp in
    let total = g.met.K.Ord.total in
    let once = dedup_same _ (have_one_key R total) _ (λ r s b f' r' s' k'. search rules) _ _
    c.dedup_by.ensures.filtered in
    let by = answers_always _ (λ a r. is_lt r ≡ is_below R total a.0.now a.1.0.now) _ (λ f a r f' k'. search rules) in
    subst (λ S. find S k c.dedup_by.new.self.items ≡ find S k c.args.rows.items) g.met.K.TableKey.is_cmp
    (ap (find R k) once
    ∙ first_is_found R total g.met.K.TableKey.exact k c.sort_by.new.self.items
    ∙ first_is_kept R total g.met.K.TableKey.exact c.args.rows.items c.sort_by.new.self.items
    (c.sort_by.ensures.stable (is_below R total) (ranks R total) by) k)

pub returns-clause-order : goal.returns-clause-order
returns-clause-order g c =
    let R = g.K.Ord.cmp in
    let total = g.met.K.Ord.total in
    let once = dedup_same _ (have_one_key R total) _ (λ r s b f' r' s' k. search rules) _ _
    c.dedup_by.ensures.filtered in
    let by = answers_always _ (λ a r. is_lt r ≡ is_below R total a.0.now a.1.0.now) _ (λ f a r f' k. search rules) in
    subst (λ S. IsStrictlySortedBy S (keys_of c.dedup_by.new.self.items)) g.met.K.TableKey.is_cmp
    (subst (λ rows. IsStrictlySortedBy R (keys_of rows)) (sym once)
    (once_rise R total c.sort_by.new.self.items (c.in_ok-sort_by.ensures.sorted (is_below R total) (ranks R total) by)))
