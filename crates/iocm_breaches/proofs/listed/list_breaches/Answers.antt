-- Where none breaks the rule, before the first record, one record more, and all.
use Rattle.std.proofs.Common.{ℕ, ◌++◌, sym, ap, ◌∙◌}
use Rattle.std.proofs.lemmas.List.{append-nil}
use Rattle.std.proofs.lemmas.Map.Iter.{rest_more, rest_all}
use Rattle.iocm_model.specs.Machine.Configuration.{records_of}
use Rattle.iocm_lookup.specs.Kinds.{of_kind}
use Rattle.iocm_breaches.specs.Breaches.{breaches_of_rule}
use Rattle.iocm_types.proofs.Tests.{absent}
use Rattle.iocm_breaches.proofs.NotBroken.{nothing_behind}
use Rattle.iocm_breaches.proofs.Listing.{all_of_kind, one_more}
use Rattle.iocm_breaches.proofs.listed.list_breaches.Goals as goal

pub returns-then-is_none : goal.returns-then-is_none
returns-then-is_none g c =
    nothing_behind c.args.rule (g.W.Wanted.wants c.args.wanted.now c.args.config.now.records) c.args.config.now.records
    c.args.breaches.now.items (sym c.first_wanted.ensures ∙ absent c.first_wanted.result c.if-is_none.ensures)

pub loop-entry-init : goal.loop-entry-init
loop-entry-init g c = let breaks = g.W.Wanted.wants c.args.wanted.now c.args.config.now.records in
    ap (λ bs. c.args.breaches.now.items ++ bs)
    (ap (breaches_of_rule c.args.rule breaks)
    (c.into_iter-entry-iterator.ensures.into_iter_gives ∙ c.records_of_kind-entry-items.ensures.records
    ∙ ap (λ (p : ℕ). of_kind p (records_of c.args.config.now.records)) c.kind.ensures)
    ∙ all_of_kind c.args.rule g.W.Wanted.place breaks
    (g.met.W.Wanted.of_kind c.args.wanted.now c.args.config.now.records) (records_of c.args.config.now.records))

pub loop-entry-preserved : goal.loop-entry-preserved
loop-entry-preserved g c = let breaks = g.W.Wanted.wants c.args.wanted.now c.args.config.now.records in
    one_more c.args.rule breaks c.in-Some.entry.now c.next.new.self c.loop-entry.breaches.items
    c.list_if_wanted.new.breaches.items c.in_ok-list_if_wanted.ensures
    ∙ ap (λ rs. c.loop-entry.breaches.items ++ breaches_of_rule c.args.rule breaks rs)
    (sym (rest_more _ _ _ _ c.in-Some.entry c.in-Some.is c.next.ensures.steps))
    ∙ c.loop-entry.invariant

pub returns : goal.returns
returns g c = let breaks = g.W.Wanted.wants c.args.wanted.now c.args.config.now.records in
    sym (append-nil c.loop-entry.breaches.items)
    ∙ ap (λ rs. c.loop-entry.breaches.items ++ breaches_of_rule c.args.rule breaks rs)
    (sym (rest_all _ _ _ _ c.in-None.is c.next.ensures.steps))
    ∙ c.loop-entry.invariant
