use Rattle.std.proofs.Common.{sym, subst, ap, ◌∙◌, ◌||◌}
use Rattle.std.specs.Map.Iter.{deref_pair}
use Rattle.std.proofs.lemmas.Map.Iter.{rest_more, rest_all}
use Rattle.iocm_model.specs.Machine.Configuration.{records_of}
use Rattle.iocm_lookup.specs.Images.{has_name}
use Rattle.iocm_lookup.proofs.SubsystemNames.{IsGathering, gathering_begins, gathering_more, gathering_ends}
use Rattle.iocm_lookup.proofs.SubsystemNames.{gathering_stops}
use Rattle.iocm_lookup.proofs.subsystem_images.names_in.Goals as goal

pub loop-key-init : goal.loop-key-init
loop-key-init g c = gathering_begins c.args.css c.args.config.now.records c.before_images.result c.has_own_keys.ensures
    c.before_images.ensures _ _
    c.new-names.ensures (c.into_iter-key-iterator.ensures.into_iter_gives ∙ c.walk_from-key-items.ensures.entries)

pub returns-then-is_past_images : goal.returns-then-is_past_images
returns-then-is_past_images g c = let gathered =
    IsGathering c.args.css (records_of c.args.config.now.records) c.loop-key.names.items in
    gathering_stops c.args.css c.args.config.now.records _ (c.in-Some.key.now, c.in-Some.entry.now) c.next.new.self
    (sym c.is_past_images.ensures ∙ c.if-is_past_images.true)
    (subst gathered (rest_more deref_pair _ _ _ (c.in-Some.key, c.in-Some.entry) c.in-Some.is c.next.ensures.steps)
    c.loop-key.invariant)

pub loop-key-preserved : goal.loop-key-preserved
loop-key-preserved g c = let gathered =
    IsGathering c.args.css (records_of c.args.config.now.records) c.loop-key.names.items in
    gathering_more c.args.css (records_of c.args.config.now.records) c.loop-key.names.items
    c.has_room_for.new.names.items
    (c.in-Some.key.now, c.in-Some.entry.now) c.next.new.self
    (λ name. c.has_room_for.ensures c.if-not-has_room_for.false name
    ∙ ap (λ b. has_name name c.loop-key.names.items || b) (c.name_in.ensures name))
    (subst gathered (rest_more deref_pair _ _ _ (c.in-Some.key, c.in-Some.entry) c.in-Some.is c.next.ensures.steps)
    c.loop-key.invariant)

pub returns : goal.returns
returns g c = let gathered = IsGathering c.args.css (records_of c.args.config.now.records) c.loop-key.names.items in
    gathering_ends c.args.css c.args.config.now.records _
    (subst gathered (rest_all deref_pair _ _ _ c.in-None.is c.next.ensures.steps) c.loop-key.invariant)
