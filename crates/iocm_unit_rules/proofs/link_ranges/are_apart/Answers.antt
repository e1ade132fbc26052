-- What it tells that sorted ranges follow each other, and that ranges that are apart do so.
use Rattle.std.proofs.Common.{rules, sym, ap, ◌∙◌}
use Rattle.std.proofs.lemmas.List.Sorted.{answers_always}
use Rattle.iocm_unit_rules.specs.LinkRanges.{do_follow}
use Rattle.iocm_unit_rules.proofs.RangesApart.{range_key, apart_in_order, follow_in_order}
use Rattle.iocm_unit_rules.proofs.link_ranges.are_apart.Goals as goal

pub returns-clause-apart : goal.returns-clause-apart
returns-clause-apart g c apart = apart_in_order c.args.ranges.items c.sort_by_key.new.self.items
    c.in_ok-sort_by_key.ensures.permutation
    (ap do_follow (sym c.as_slice.ensures.value) ∙ sym c.do_follow.ensures ∙ apart)

pub returns-clause-seen : goal.returns-clause-seen
returns-clause-seen g c some none = c.do_follow.ensures ∙ ap do_follow c.as_slice.ensures.value
    ∙ follow_in_order c.args.ranges.items c.sort_by_key.new.self.items c.in_ok-sort_by_key.ensures.permutation
    (c.in_ok-sort_by_key.ensures.sorted range_key (answers_always _ _ _ (λ f a r q k. search rules))) some none
