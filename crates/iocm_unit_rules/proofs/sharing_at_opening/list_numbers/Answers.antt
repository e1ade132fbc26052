-- Before the first unit, one unit more, and all.
use Rattle.std.proofs.Common.{◌++◌, append_assoc, sym, ap, ◌∙◌}
use Rattle.std.proofs.lemmas.List.{append-nil}
use Rattle.std.proofs.lemmas.Map.Iter.{rest_more, rest_all}
use Rattle.std.specs.List.{flat_map}
use Rattle.iocm_model.specs.Machine.Configuration.{records_of}
use Rattle.iocm_lookup.proofs.KindWalks.{given_by_kind}
use Rattle.iocm_unit_rules.specs.LinkNumbers.{link_numbers}
use Rattle.iocm_unit_rules.proofs.LinksApart.{only_units_give}
use Rattle.iocm_unit_rules.proofs.sharing_at_opening.list_numbers.Goals as goal

pub loop-entry-init : goal.loop-entry-init
loop-entry-init g c =
    (λ i. c.new-listed.ensures.items i
    ++ flat_map link_numbers
    ((c.into_iter-entry-iterator.ensures.into_iter_gives ∙ c.records_of_kind-entry-items.ensures.records) i))
    ∙ given_by_kind 5 link_numbers only_units_give (records_of c.args.config.now.records)

pub loop-entry-preserved : goal.loop-entry-preserved
loop-entry-preserved g c =
    ap (λ l. l ++ flat_map link_numbers c.next.new.self) c.in_ok-list_of_record.ensures
    ∙ append_assoc c.loop-entry.listed.items (link_numbers c.in-Some.entry.now) (flat_map link_numbers c.next.new.self)
    ∙ ap (λ es. c.loop-entry.listed.items ++ flat_map link_numbers es)
    (sym (rest_more _ _ _ _ c.in-Some.entry c.in-Some.is c.next.ensures.steps))
    ∙ c.loop-entry.invariant

pub returns : goal.returns
returns g c =
    sym (append-nil c.loop-entry.listed.items)
    ∙ ap (λ es. c.loop-entry.listed.items ++ flat_map link_numbers es)
    (sym (rest_all _ _ _ _ c.in-None.is c.next.ensures.steps))
    ∙ c.loop-entry.invariant
