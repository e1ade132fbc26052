-- What was listed and put in order is what the law asks for.
use Rattle.std.proofs.Common.{◌≡◌, Bor, [], ◌++◌, Option, Some, None, refl, sym, ap, subst, subst₂, ◌∙◌}
use Rattle.std.specs.declared.cmp.Ordering.{Ordering}
use Rattle.std.specs.List.Sorted.{IsStrictlySortedBy}
use Rattle.std.specs.List.{list_any}
use Rattle.std.specs.Option.{option_copied, ForSome}
use Rattle.std.specs.Ordering.{eq_by_cmp}
use Rattle.iocm_types.specs.declared.key.Key.{Key}
use Rattle.iocm_types.specs.Place.{place_cmp}
use Rattle.iocm_types.specs.SubId.{image_cmp}
use Rattle.iocm_model.specs.Change.Maps.{with_value}
use Rattle.iocm_model.specs.Machine.Record.{Rec, key_of}
use Rattle.iocm_affected.specs.Affected.{AreAllAffected}
use Rattle.iocm_affected.specs.Listing.{led_images, led_places}
use Rattle.iocm_affected.proofs.Unaffected.{all_affected, none_affected}
use Rattle.iocm_affected.proofs.changed.affected_by.Goals as goal

-- nothing is in order
nothing_rises : {K : Type 0} (R : K → K → Ordering) → IsStrictlySortedBy R []
unfolding IsStrictlySortedBy
nothing_rises R = tt

-- the record that a key gets has this key
own_key : (o : Option (Bor Rec)) (k : Key) → ForSome o (λ entry. key_of entry.now ≡ k) → (r : Rec)
    → option_copied o ≡ Some r → key_of r ≡ k
own_key None k has r is = cc
own_key (Some entry) k has r is = let same : entry.now ≡ r = cc in ap key_of (sym same) ∙ has entry refl

pub returns-clause-all : goal.returns-clause-all
returns-clause-all g c =
    all_affected c.args.config.now.records c.args.key.now (option_copied c.args.after) c.has_own_keys.ensures
    (own_key c.args.after c.args.key.now c.requires.key)
    c.args.index.now c.requires.index c.in_ok-places.places.items c.in_ok-images.images.items
    (λ p. c.in_ok-places.ensures.same p ∙ c.in_ok-list_led.ensures p ∙ ap (list_any (eq_by_cmp place_cmp p))
    (ap (λ ps. ps ++ led_places c.args.index.now c.args.key.now (option_copied c.get-before.result)
    (option_copied c.args.after)) c.new-listed.ensures.items
    ∙ ap (λ o. led_places c.args.index.now c.args.key.now o (option_copied c.args.after)) c.get-before.ensures))
    (c.in_ok-images.ensures.images
    ∙ ap (λ o. led_images c.args.config.now.records c.args.key.now o (option_copied c.args.after))
    c.get-before.ensures)

-- a device that keeps its control units and candidates affects nothing
pub returns-then-are_seen_alike-clause-all : goal.returns-then-are_seen_alike-clause-all
returns-then-are_seen_alike-clause-all g c =
    let alike = c.are_seen_alike.ensures c.if-are_seen_alike.true in
    let none = none_affected c.args.config.now.records c.args.key.now (option_copied c.args.after)
    c.has_own_keys.ensures
    (own_key c.args.after c.args.key.now c.requires.key) alike.alike.before alike.alike.after
    (sym c.get-before.ensures ∙ alike.was_there ∙ ap Some alike.alike.old_is)
    (alike.is_there ∙ ap Some alike.alike.new_is)
    alike.alike.units alike.alike.candidates in
    subst₂ (AreAllAffected c.args.config.now.records
    (with_value c.args.config.now.records c.args.key.now (option_copied c.args.after)))
    (sym c.new.ensures.items) (sym c.new-then-are_seen_alike.ensures.items) none

pub returns-then-are_seen_alike-clause-places_rise : goal.returns-then-are_seen_alike-clause-places_rise
returns-then-are_seen_alike-clause-places_rise g c =
    subst (IsStrictlySortedBy place_cmp) (sym c.new.ensures.items) (nothing_rises place_cmp)

pub returns-then-are_seen_alike-clause-images_rise : goal.returns-then-are_seen_alike-clause-images_rise
returns-then-are_seen_alike-clause-images_rise g c =
    subst (IsStrictlySortedBy image_cmp) (sym c.new-then-are_seen_alike.ensures.items) (nothing_rises image_cmp)
