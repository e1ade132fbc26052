-- From the first online record on, one row after the other, to the end or to the first row that
-- isn't of the range.
use Rattle.std.proofs.Common.{ap, refl, subst, sym, ◌∙◌, is_some, List, ℕ, nat_eq}
use Rattle.std.specs.Cmp.Lexicographic.{pointwise}
use Rattle.std.specs.FinMap.{entries}
use Rattle.std.specs.Ordering.{eq_by_cmp}
use Rattle.iocm_types.specs.Key.{key_cmp}
use Rattle.iocm_types.specs.declared.key.Key.{Key}
use Rattle.iocm_types.specs.declared.key.Key.TheVariants.{Online}
use Rattle.iocm_table.specs.Slots.{rows_from}
use Rattle.iocm_derive.proofs.PathKeys.{ends}
use Rattle.iocm_reach.specs.Ranges.{least}
use Rattle.iocm_reach.proofs.Marked.{IsMarking, marks_begin, marks_more, marks_stop, marks_end}
use Rattle.iocm_reach.proofs.RangeKeys.{first_online, behind_online, ties_with_online}
use Rattle.iocm_reach.proofs.online.online_images.Goals as goal

pub loop-key-init : goal.loop-key-init
loop-key-init g c = marks_begin c.args.config.now.records c.args.range.now c.args.names.now c.requires
    (Online c.args.range.now.css c.args.range.now.first least) (Online c.args.range.now.css) (λ n. is_some) (λ n. refl)
    c.first_online.ensures.last (first_online c.args.range.now) _
    (c.into_iter-key-iterator.ensures.into_iter_gives ∙ c.walk_from-key-items.ensures.entries
    ∙ ap (λ (k : Key). rows_from key_cmp k (entries c.args.config.now.records)) c.first_online.ensures.key)

pub returns-in_default : goal.returns-in_default
returns-in_default g c = marks_stop c.args.config.now.records c.args.range.now c.args.names.now c.requires
    (Online c.args.range.now.css c.args.range.now.first least) (Online c.args.range.now.css) (λ n. is_some) (λ n. refl)
    c.loop-key.online (c.in-Some.key.now, c.in-Some.field-0-1.now) c.loop-key.key-iterator c.next.new.self
    c.loop-key.invariant c.in-Some.ensures.steps
    (behind_online c.args.range.now c.in-Some.key.now (sym c.online_within.ensures ∙ c.in_default.is))

pub loop-key-preserved : goal.loop-key-preserved
loop-key-preserved g c = marks_more c.args.config.now.records c.args.range.now c.args.names.now c.requires
    (Online c.args.range.now.css c.args.range.now.first least) (Online c.args.range.now.css) (λ n. is_some) (λ n. refl)
    c.loop-key.online c.mark_online.new.online (c.in-Some.key.now, c.in-Some.field-0-1.now) c.loop-key.key-iterator
    c.next.new.self
    c.in-Some-online_within.row.path (λ (n : List ℕ). pointwise nat_eq n c.in-Some-online_within.row.name)
    c.loop-key.invariant c.in-Some.ensures.steps c.mark_online.ensures
    (λ p n. ends (eq_by_cmp key_cmp (Online c.args.range.now.css p n) c.in-Some.key.now)
    ∙ ties_with_online c.args.range.now c.in-Some-online_within.row c.in-Some.key.now
    (sym c.online_within.ensures ∙ c.in-Some-online_within.is) p n)

pub returns : goal.returns
returns g c = marks_end c.args.config.now.records c.args.range.now c.args.names.now c.requires
    (Online c.args.range.now.css c.args.range.now.first least) (Online c.args.range.now.css) (λ n. is_some) (λ n. refl)
    c.loop-key.online (subst
    (IsMarking c.args.config.now.records c.args.range.now (Online c.args.range.now.css c.args.range.now.first least)
    (Online c.args.range.now.css) (λ n. is_some) c.loop-key.online) c.in-None.ensures.steps.0 c.loop-key.invariant)
