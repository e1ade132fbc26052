use Rattle.std.proofs.Common.{T, nat_eq, [], ◌∷◌, ◌++◌, List, ap, sym, subst, ◌∙◌}
use Rattle.std.proofs.lemmas.List.{append-nil, append_assoc}
use Rattle.std.specs.List.{list_any, AllByRecursion}
use Rattle.iocm_types.specs.declared.key.Key.{Key}
use Rattle.iocm_model.specs.Machine.Record.{Rec, ImageRecord}
use Rattle.iocm_seats.specs.Listing.{AreSubsystemsOf}
use Rattle.iocm_seats.proofs.ImagesTogether.{IsPast, images_in, images_together, records_in}
use Rattle.iocm_seats.proofs.Known.{noted, noted_next}
use Rattle.iocm_seats.proofs.Together.{StandTogether, none_left, still_together}
use Rattle.iocm_seats.proofs.image_subsystems.image_subsystems.Goals as goal

abbrev Rows : Type 0
Rows = List (Key × Rec)

pub loop-key-init : goal.loop-key-init
loop-key-init g c = record {
  known = λ more all. all;
  together = subst (StandTogether IsPast images_in)
      (sym (c.into_iter-key-iterator.ensures.into_iter_gives ∙ c.walk-key-items.ensures.entries))
      (images_together c.args.config.now.records c.has_own_keys.ensures);
}

pub loop-key-preserved : goal.loop-key-preserved
loop-key-preserved g c = record {
  known = λ more rest. c.loop-key.invariant.known more
      (subst (λ (es : Rows). AreSubsystemsOf (records_in es) (c.loop-key.subsystems.items ++ more))
      (sym c.in-Some.ensures.steps)
      (noted c.in-Some.entry.now (records_in c.next.new.self) c.loop-key.subsystems.items more
      (subst (AreSubsystemsOf (c.in-Some.entry.now ∷ [])) c.as_slice.ensures.value c.in_default.ensures) rest));
  together = still_together IsPast images_in (c.in-Some.key.now, c.in-Some.entry.now) c.next.new.self
      c.loop-key.key-iterator c.in-Some.ensures.steps
      c.loop-key.invariant.together;
}

pub loop-key-preserved-in-Continue-1 : goal.loop-key-preserved-in-Continue-1
loop-key-preserved-in-Continue-1 g c =
    let old = c.loop-key.subsystems.items in
    let css = c.in-Some-new_subsystem.css in record {
      known = λ more rest.
          let longer = ap (λ xs. xs ++ more) c.in_ok-push.ensures.items ∙ append_assoc old (css ∷ []) more in
          subst (AreSubsystemsOf (records_in c.into_iter-key-iterator.result)) (sym longer)
          (c.loop-key.invariant.known (css ∷ more)
          (subst (λ (es : Rows). AreSubsystemsOf (records_in es) (old ++ css ∷ more)) (sym c.in-Some.ensures.steps)
          (noted_next c.in-Some.entry.now (records_in c.next.new.self) old more css c.in-Some-new_subsystem.ensures
          (subst (AreSubsystemsOf (records_in c.next.new.self)) longer rest))));
      together = still_together IsPast images_in (c.in-Some.key.now, c.in-Some.entry.now) c.next.new.self
          c.loop-key.key-iterator c.in-Some.ensures.steps
          c.loop-key.invariant.together;
    }

-- at the first record past the images
pub returns-then-is_past_images : goal.returns-then-is_past_images
returns-then-is_past_images g c =
    let old = c.loop-key.subsystems.items in
    let none = none_left IsPast images_in (c.in-Some.key.now, c.in-Some.entry.now) c.next.new.self
    c.loop-key.key-iterator c.in-Some.ensures.steps
    c.loop-key.invariant.together (sym c.is_past_images.ensures ∙ c.if-is_past_images.true) in
    subst (λ (es : Rows). AreSubsystemsOf (records_in es) old)
    (c.into_iter-key-iterator.ensures.into_iter_gives ∙ c.walk-key-items.ensures.entries)
    (subst (AreSubsystemsOf (records_in c.into_iter-key-iterator.result)) (append-nil old)
    (c.loop-key.invariant.known []
    (subst (AllByRecursion (λ (i : ImageRecord). T (list_any (nat_eq i.css) (old ++ [])))) (sym none) tt)))

pub returns : goal.returns
returns g c = subst (λ (es : Rows). AreSubsystemsOf (records_in es) c.loop-key.subsystems.items)
    (c.into_iter-key-iterator.ensures.into_iter_gives ∙ c.walk-key-items.ensures.entries)
    (subst (AreSubsystemsOf (records_in c.into_iter-key-iterator.result)) (append-nil c.loop-key.subsystems.items)
    (c.loop-key.invariant.known []
    (subst (λ (es : Rows). AreSubsystemsOf (records_in es) (c.loop-key.subsystems.items ++ []))
    (sym c.in-None.ensures.steps.0) tt)))
