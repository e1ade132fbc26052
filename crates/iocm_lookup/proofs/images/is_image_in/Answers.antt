-- From the first key on: one record more, an image of the name, past the images, and at the end.
use Rattle.std.proofs.Common.{Some, None, sym, subst, ◌∙◌}
use Rattle.std.specs.Map.Iter.{deref_pair}
use Rattle.std.proofs.lemmas.Map.Iter.{rest_more, rest_all}
use Rattle.iocm_model.specs.Machine.Configuration.{records_of}
use Rattle.iocm_lookup.specs.Images.{is_named_in, is_past_images}
use Rattle.iocm_lookup.proofs.NamedImages.{images_before, images_from, told_of_images}
use Rattle.iocm_lookup.proofs.Walks.{IsLeft, left_from, passed_by, found_here, none_from, none_left}
use Rattle.iocm_lookup.proofs.images.is_image_in.Goals as goal

pub loop-key-init : goal.loop-key-init
loop-key-init g c = let so = is_named_in c.args.css c.args.name in
    subst (IsLeft so (records_of c.args.config.now.records))
    (sym (c.into_iter-key-iterator.ensures.into_iter_gives ∙ c.walk_from-key-items.ensures.entries))
    (left_from so c.before_images.result
    (images_from c.args.css c.args.name c.before_images.result c.before_images.ensures) c.args.config.now.records
    c.has_own_keys.ensures)

pub returns-then-is_past_images : goal.returns-then-is_past_images
returns-then-is_past_images g c = let so = is_named_in c.args.css c.args.name in let records =
    records_of c.args.config.now.records in
    told_of_images c.args.css c.args.name records None
    (none_from so (is_past_images c.args.css) (images_before c.args.css c.args.name) records
    (c.in-Some.key.now, c.in-Some.entry.now) c.next.new.self
    (sym c.is_past_images.ensures ∙ c.if-is_past_images.true)
    (subst (IsLeft so records)
    (rest_more deref_pair _ _ _ (c.in-Some.key, c.in-Some.entry) c.in-Some.is c.next.ensures.steps)
    c.loop-key.invariant))

pub returns-then-is_named_in : goal.returns-then-is_named_in
returns-then-is_named_in g c = let so = is_named_in c.args.css c.args.name in let records =
    records_of c.args.config.now.records in
    told_of_images c.args.css c.args.name records (Some c.in-Some.key.now)
    (found_here so records (c.in-Some.key.now, c.in-Some.entry.now) c.next.new.self
    (sym c.is_named_in.ensures ∙ c.if-is_named_in.true)
    (subst (IsLeft so records)
    (rest_more deref_pair _ _ _ (c.in-Some.key, c.in-Some.entry) c.in-Some.is c.next.ensures.steps)
    c.loop-key.invariant))

pub loop-key-preserved : goal.loop-key-preserved
loop-key-preserved g c = let so = is_named_in c.args.css c.args.name in let records =
    records_of c.args.config.now.records in
    passed_by so records (c.in-Some.key.now, c.in-Some.entry.now) c.next.new.self
    (sym c.is_named_in.ensures ∙ c.if-is_named_in.false)
    (subst (IsLeft so records)
    (rest_more deref_pair _ _ _ (c.in-Some.key, c.in-Some.entry) c.in-Some.is c.next.ensures.steps)
    c.loop-key.invariant)

pub returns : goal.returns
returns g c = let so = is_named_in c.args.css c.args.name in let records = records_of c.args.config.now.records in
    told_of_images c.args.css c.args.name records None
    (none_left so records (subst (IsLeft so records) (rest_all deref_pair _ _ _ c.in-None.is c.next.ensures.steps)
    c.loop-key.invariant))
