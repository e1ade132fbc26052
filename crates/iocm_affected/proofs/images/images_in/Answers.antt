-- From the first key on, at one entry more, past the images, and at the end.
use Rattle.std.proofs.Common.{sym, subst, ◌∙◌}
use Rattle.std.proofs.lemmas.Map.Iter.{rest_more, rest_all}
use Rattle.std.specs.List.Sorted.{IsStrictlySortedBy}
use Rattle.std.specs.Map.Iter.{deref_pair}
use Rattle.iocm_types.specs.SubId.{image_cmp}
use Rattle.iocm_affected.proofs.ChoiceWalks.{IsLeft, left_at_first, listed_one, listed_past, listed_all, images_rise}
use Rattle.iocm_affected.proofs.images.images_in.Goals as goal

pub loop-key-init : goal.loop-key-init
loop-key-init g c = subst
    (IsLeft (g.C.Choice.chosen c.args.choice.now) c.args.config.now.records c.in_ok-images.images.items)
    (sym (c.into_iter-key-iterator.ensures.into_iter_gives ∙ c.walk_from-key-items.ensures.entries))
    (left_at_first (g.C.Choice.chosen c.args.choice.now) c.args.config.now.records c.has_own_keys.ensures
    c.in_ok-images.images.items c.in_ok-images.ensures.items)

pub returns-then-is_past_images-clause-images : goal.returns-then-is_past_images-clause-images
returns-then-is_past_images-clause-images g c =
    listed_past (g.C.Choice.chosen c.args.choice.now) c.args.config.now.records (c.in-Some.key.now, c.in-Some.entry.now)
    c.next.new.self c.loop-key.images.items
    (sym c.is_past_images.ensures ∙ c.if-is_past_images.true)
    (subst (IsLeft (g.C.Choice.chosen c.args.choice.now) c.args.config.now.records c.loop-key.images.items)
    (rest_more deref_pair _ _ _ (c.in-Some.key, c.in-Some.entry) c.in-Some.is c.next.ensures.steps)
    c.loop-key.invariant)

pub returns-then-is_past_images-clause-rise : goal.returns-then-is_past_images-clause-rise
returns-then-is_past_images-clause-rise g c = subst (IsStrictlySortedBy image_cmp)
    (sym (returns-then-is_past_images-clause-images g c))
    (images_rise (g.C.Choice.chosen c.args.choice.now) c.args.config.now.records c.has_own_keys.ensures)

pub loop-key-preserved : goal.loop-key-preserved
loop-key-preserved g c =
    listed_one (g.C.Choice.chosen c.args.choice.now) c.args.config.now.records (c.in-Some.key.now, c.in-Some.entry.now)
    c.next.new.self c.loop-key.images.items
    c.list_if_chosen.new.images.items c.in_ok-list_if_chosen.ensures
    (subst (IsLeft (g.C.Choice.chosen c.args.choice.now) c.args.config.now.records c.loop-key.images.items)
    (rest_more deref_pair _ _ _ (c.in-Some.key, c.in-Some.entry) c.in-Some.is c.next.ensures.steps)
    c.loop-key.invariant)

pub returns-clause-images : goal.returns-clause-images
returns-clause-images g c = listed_all (g.C.Choice.chosen c.args.choice.now) c.args.config.now.records
    c.loop-key.images.items
    (subst (IsLeft (g.C.Choice.chosen c.args.choice.now) c.args.config.now.records c.loop-key.images.items)
    (rest_all deref_pair _ _ _ c.in-None.is c.next.ensures.steps) c.loop-key.invariant)

pub returns-clause-rise : goal.returns-clause-rise
returns-clause-rise g c = subst (IsStrictlySortedBy image_cmp) (sym (returns-clause-images g c))
    (images_rise (g.C.Choice.chosen c.args.choice.now) c.args.config.now.records c.has_own_keys.ensures)
