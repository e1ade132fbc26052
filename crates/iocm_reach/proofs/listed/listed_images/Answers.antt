-- From the first path on, one row after the other, to the end or to the first row that isn't of the
-- range.
use Rattle.std.proofs.Common.{ap, refl, subst, sym, ◌∙◌, ◌&&◌, Some, List, ℕ}
use Rattle.std.specs.FinMap.{entries}
use Rattle.iocm_types.specs.Key.{key_cmp}
use Rattle.iocm_types.specs.declared.key.Key.{Key}
use Rattle.iocm_types.specs.declared.key.Key.TheVariants.{Path}
use Rattle.iocm_table.specs.Slots.{rows_from}
use Rattle.iocm_model.specs.Machine.Sight.{record_lists}
use Rattle.iocm_reach.proofs.Marked.{IsMarking, marks_begin, marks_more, marks_stop, marks_end}
use Rattle.iocm_reach.proofs.RangeKeys.{first_path, behind_paths, ties_with_path}
use Rattle.iocm_reach.proofs.listed.listed_images.Goals as goal

pub loop-key-init : goal.loop-key-init
loop-key-init g c = marks_begin c.args.config.now.records c.args.range.now c.args.names.now c.requires
    (Path c.args.range.now.css c.args.range.now.first) (λ p n. Path c.args.range.now.css p) record_lists (λ n. refl)
    c.first_path.ensures.last (λ p n low named. first_path c.args.range.now p low) _
    (c.into_iter-key-iterator.ensures.into_iter_gives ∙ c.walk_from-key-items.ensures.entries
    ∙ ap (λ (k : Key). rows_from key_cmp k (entries c.args.config.now.records)) c.first_path.ensures.key)

pub returns-in_default : goal.returns-in_default
returns-in_default g c = marks_stop c.args.config.now.records c.args.range.now c.args.names.now c.requires
    (Path c.args.range.now.css c.args.range.now.first) (λ p n. Path c.args.range.now.css p) record_lists (λ n. refl)
    c.loop-key.listed (c.in-Some.key.now, c.in-Some.entry.now) c.loop-key.key-iterator c.next.new.self
    c.loop-key.invariant c.in-Some.ensures.steps
    (λ le p n low. behind_paths c.args.range.now c.in-Some.key.now (sym c.path_within.ensures ∙ c.in_default.is) le p
    low)

pub loop-key-preserved : goal.loop-key-preserved
loop-key-preserved g c = marks_more c.args.config.now.records c.args.range.now c.args.names.now c.requires
    (Path c.args.range.now.css c.args.range.now.first) (λ p n. Path c.args.range.now.css p) record_lists (λ n. refl)
    c.loop-key.listed c.mark_listed.new.listed (c.in-Some.key.now, c.in-Some.entry.now) c.loop-key.key-iterator
    c.next.new.self
    c.in-Some-path_within.path (λ (n : List ℕ). record_lists n (Some c.in-Some.entry.now))
    c.loop-key.invariant c.in-Some.ensures.steps c.mark_listed.ensures
    (λ p n. ap (λ b. b && record_lists n (Some c.in-Some.entry.now))
    (ties_with_path c.args.range.now c.in-Some-path_within.path c.in-Some.key.now
    (sym c.path_within.ensures ∙ c.in-Some-path_within.is) p))

pub returns : goal.returns
returns g c = marks_end c.args.config.now.records c.args.range.now c.args.names.now c.requires
    (Path c.args.range.now.css c.args.range.now.first) (λ p n. Path c.args.range.now.css p) record_lists (λ n. refl)
    c.loop-key.listed (subst
    (IsMarking c.args.config.now.records c.args.range.now (Path c.args.range.now.css c.args.range.now.first)
    (λ p n. Path c.args.range.now.css p) record_lists c.loop-key.listed) c.in-None.ensures.steps.0 c.loop-key.invariant)
