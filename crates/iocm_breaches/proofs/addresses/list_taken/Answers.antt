-- Before the first record, one record more, and all.
use Rattle.std.proofs.Common.{◌++◌, sym, ap, subst, ◌∙◌}
use Rattle.std.specs.Map.Iter.{deref_pair}
use Rattle.std.proofs.lemmas.Map.Iter.{rest_more, rest_all}
use Rattle.iocm_lookup.specs.Entries.{in_entries}
use Rattle.iocm_breaches.specs.Addresses.{is_met, listed_from, HaveBytes}
use Rattle.iocm_breaches.proofs.MetAddresses.{nothing_met, listed_more, listed_all, listed_is}
use Rattle.iocm_breaches.proofs.addresses.list_taken.Goals as goal

pub loop-entry-init : goal.loop-entry-init
loop-entry-init g c = let all =
    c.into_iter-entry-iterator.ensures.into_iter_gives ∙ c.walk-entry-items.ensures.entries in record {
      listed = λ i. c.args.breaches.now.items
          ++ listed_from (λ n. nothing_met c.new-met.result c.new-met.ensures.empty n i) (in_entries (all i));
      bytes = subst (λ es. HaveBytes (in_entries es)) all;
    }

pub loop-entry-preserved : goal.loop-entry-preserved
loop-entry-preserved g c =
    let left = rest_more deref_pair _ _ _ (c.in-Some.field-0-0, c.in-Some.entry) c.in-Some.is c.next.ensures.steps in
    record {
      listed = listed_more (is_met c.loop-entry.met) (is_met c.list_if_taken.new.met) c.in-Some.entry.now
          (in_entries c.next.new.self)
          c.loop-entry.breaches.items c.list_if_taken.new.breaches.items c.in_ok-list_if_taken.ensures.listed
          c.in_ok-list_if_taken.ensures.met
          ∙ ap (λ es. c.loop-entry.breaches.items ++ listed_from (is_met c.loop-entry.met) (in_entries es)) (sym left)
          ∙ c.loop-entry.invariant.listed;
      bytes = λ rest. c.loop-entry.invariant.bytes
          (subst (λ es. HaveBytes (in_entries es)) (sym left) (c.in_ok-list_if_taken.ensures.byte, rest));
    }

pub returns : goal.returns
returns g c =
    let none = rest_all deref_pair _ _ _ c.in-None.is c.next.ensures.steps in
    listed_all (is_met c.loop-entry.met) c.loop-entry.breaches.items
    ∙ ap (λ es. c.loop-entry.breaches.items ++ listed_from (is_met c.loop-entry.met) (in_entries es)) (sym none)
    ∙ c.loop-entry.invariant.listed
    ∙ ap (λ bs. c.args.breaches.now.items ++ bs) (listed_is c.args.config.now.records c.has_own_keys.ensures
    (c.loop-entry.invariant.bytes (subst (λ es. HaveBytes (in_entries es)) (sym none) tt)))
