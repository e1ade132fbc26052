use Rattle.std.proofs.Common.{[], ◌∷◌, ◌++◌, ◌==◌, List, filter, ap, sym, subst, ◌∙◌}
use Rattle.std.proofs.lemmas.List.{append-nil, append_assoc}
use Rattle.iocm_types.specs.declared.key.Key.{Key}
use Rattle.iocm_model.specs.Machine.Record.{Rec, ImageRecord}
use Rattle.iocm_seats.specs.Listing.{images_among, sights_of}
use Rattle.iocm_seats.proofs.ImagesTogether.{IsPast, images_in, images_together, records_in}
use Rattle.iocm_seats.proofs.Listed.{sights-more}
use Rattle.iocm_seats.proofs.Together.{StandTogether, none_left, still_together}
use Rattle.iocm_seats.proofs.subsystem_sights.subsystem_sights.Goals as goal

pub loop-key-init : goal.loop-key-init
loop-key-init g c = record {
  sights = ap (λ xs. xs ++ sights_of c.args.config.now.records
      (images_among c.args.css (records_in c.into_iter-key-iterator.result))) c.new-sights.ensures.items;
  together = subst (StandTogether IsPast images_in)
      (sym (c.into_iter-key-iterator.ensures.into_iter_gives ∙ c.walk-key-items.ensures.entries))
      (images_together c.args.config.now.records c.has_own_keys.ensures);
}

-- a record of none of its images
pub loop-key-preserved : goal.loop-key-preserved
loop-key-preserved g c =
    let m = c.args.config.now.records in
    let e : Key × Rec = (c.in-Some.key.now, c.in-Some.entry.now) in
    let rest = records_in c.next.new.self in record {
      sights = ap (λ xs. c.loop-key.sights.items ++ xs)
          (ap (λ xs. sights_of m xs ++ sights_of m (images_among c.args.css rest)) (sym c.in_default.ensures)
          ∙ sym (sights-more m c.args.css e.1 rest)
          ∙ ap (λ (es : List (Key × Rec)). sights_of m (images_among c.args.css (records_in es)))
          (sym c.in-Some.ensures.steps))
          ∙ c.loop-key.invariant.sights;
      together = still_together IsPast images_in e c.next.new.self c.loop-key.key-iterator c.in-Some.ensures.steps
          c.loop-key.invariant.together;
    }

-- one of its images
pub loop-key-preserved-in-Continue-1 : goal.loop-key-preserved-in-Continue-1
loop-key-preserved-in-Continue-1 g c =
    let m = c.args.config.now.records in
    let e : Key × Rec = (c.in-Some.key.now, c.in-Some.entry.now) in
    let rest = records_in c.next.new.self in record {
      sights = ap (λ xs. xs ++ sights_of m (images_among c.args.css rest)) c.in_ok-push.ensures.items
          ∙ append_assoc c.loop-key.sights.items (c.in-Some-sight_in.sight ∷ [])
          (sights_of m (images_among c.args.css rest))
          ∙ ap (λ xs. c.loop-key.sights.items ++ xs)
          (ap (λ xs. xs ++ sights_of m (images_among c.args.css rest)) (sym c.in-Some-sight_in.ensures)
          ∙ sym (sights-more m c.args.css e.1 rest)
          ∙ ap (λ (es : List (Key × Rec)). sights_of m (images_among c.args.css (records_in es)))
          (sym c.in-Some.ensures.steps))
          ∙ c.loop-key.invariant.sights;
      together = still_together IsPast images_in e c.next.new.self c.loop-key.key-iterator c.in-Some.ensures.steps
          c.loop-key.invariant.together;
    }

-- at the first record past the images
pub returns-then-is_past_images : goal.returns-then-is_past_images
returns-then-is_past_images g c =
    let m = c.args.config.now.records in
    let e : Key × Rec = (c.in-Some.key.now, c.in-Some.entry.now) in
    sym (append-nil c.loop-key.sights.items)
    ∙ ap (λ (is : List ImageRecord).
    c.loop-key.sights.items ++ sights_of m (filter (λ (i : ImageRecord). i.css == c.args.css) is))
    (sym (none_left IsPast images_in e c.next.new.self c.loop-key.key-iterator c.in-Some.ensures.steps
    c.loop-key.invariant.together
    (sym c.is_past_images.ensures ∙ c.if-is_past_images.true)))
    ∙ c.loop-key.invariant.sights
    ∙ ap (λ (es : List (Key × Rec)). sights_of m (images_among c.args.css (records_in es)))
    (c.into_iter-key-iterator.ensures.into_iter_gives ∙ c.walk-key-items.ensures.entries)

pub returns : goal.returns
returns g c =
    let m = c.args.config.now.records in
    sym (append-nil c.loop-key.sights.items)
    ∙ ap (λ (es : List (Key × Rec)). c.loop-key.sights.items ++ sights_of m (images_among c.args.css (records_in es)))
    (sym c.in-None.ensures.steps.0)
    ∙ c.loop-key.invariant.sights
    ∙ ap (λ (es : List (Key × Rec)). sights_of m (images_among c.args.css (records_in es)))
    (c.into_iter-key-iterator.ensures.into_iter_gives ∙ c.walk-key-items.ensures.entries)
