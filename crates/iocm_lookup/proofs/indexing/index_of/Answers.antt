-- Before the first record, one record more, and all.
use Rattle.std.proofs.Common.{◌||◌, sym, ap, ◌∙◌}
use Rattle.std.proofs.lemmas.List.Folds.{list_any-append}
use Rattle.std.proofs.lemmas.Map.Iter.{rest_more, rest_all}
use Rattle.std.proofs.lemmas.Result.{IfOk-weaker}
use Rattle.std.specs.List.{list_any}
use Rattle.std.specs.Map.Iter.{deref_pair}
use Rattle.std.specs.Ordering.{eq_by_cmp}
use Rattle.iocm_types.specs.Naming.{naming_cmp}
use Rattle.iocm_index.specs.Namings.{is_naming_of, namings_of}
use Rattle.iocm_model.specs.Machine.Configuration.{records_of}
use Rattle.iocm_lookup.proofs.Linking.{of_some_record, more_listed, none_listed}
use Rattle.iocm_lookup.specs.Entries.{in_entries}
use Rattle.iocm_lookup.proofs.indexing.index_of.Goals as goal

pub loop-entry-init : goal.loop-entry-init
loop-entry-init g c n =
    (λ i. list_any (λ r. is_naming_of r n)
    (in_entries ((c.into_iter-entry-iterator.ensures.into_iter_gives ∙ c.walk-entry-items.ensures.entries) i))
    || list_any (eq_by_cmp naming_cmp n) (c.in_ok-namings.ensures.items i))
    ∙ none_listed (list_any (λ r. is_naming_of r n) (records_of c.args.config.now.records))

pub loop-entry-preserved : goal.loop-entry-preserved
loop-entry-preserved g c n =
    let is_it = eq_by_cmp naming_cmp n in
    more_listed (is_naming_of c.in-Some.entry.now n) (list_any (λ r. is_naming_of r n) (in_entries c.next.new.self))
    (list_any is_it c.loop-entry.namings.items)
    (list_any is_it c.list_namings.new.listed.items)
    (list_any (λ r. is_naming_of r n) (records_of c.args.config.now.records))
    (ap (list_any is_it) c.in_ok-list_namings.ensures
    ∙ list_any-append is_it c.loop-entry.namings.items (namings_of c.in-Some.entry.now))
    (ap (λ es. list_any (λ r. is_naming_of r n) (in_entries es) || list_any is_it c.loop-entry.namings.items)
    (sym (rest_more deref_pair _ _ _ (c.in-Some.field-0-0, c.in-Some.entry) c.in-Some.is c.next.ensures.steps))
    ∙ c.loop-entry.invariant n)

pub returns : goal.returns
returns g c = IfOk-weaker c.from_namings.result _ _ (λ index linked n. linked n
    ∙ sym (ap (λ es. list_any (λ r. is_naming_of r n) (in_entries es)
    || list_any (eq_by_cmp naming_cmp n) c.loop-entry.namings.items)
    (rest_all deref_pair _ _ _ c.in-None.is c.next.ensures.steps))
    ∙ c.loop-entry.invariant n ∙ of_some_record c.args.config.now.records c.has_own_keys.ensures n)
    c.from_namings.ensures.linked
