-- Of a configuration and itself no object is told, and no image is affected.
use Rattle.std.proofs.Common.{◌≡◌, ◌==◌, ◌∙◌, ◌++◌, ◌||◌, ◌&&◌, Bool, true, false, cond, not, List, [], ◌∷◌, Option, None, Some}
use Rattle.std.proofs.Common.{ap, ap₂, filter, length, map, refl}
use Rattle.std.specs.FinMap.{entries}
use Rattle.std.specs.List.{flat_map}
use Rattle.iocm_types.specs.declared.image.Image.{Image}
use Rattle.iocm_model.specs.Machine.Configuration.{Configuration, lookup_of}
use Rattle.iocm_difference.specs.Walks.{Pair, pairs_of}
use Rattle.iocm_filter.specs.Wanted.{Wanted}
use Rattle.iocm_plan.specs.Effects.{affects, effect_between}
use Rattle.iocm_plan.specs.Left.{effects_on_runs, is_asked_of_both, is_told, no_effect}
use Rattle.iocm_plan.specs.RunEffects.{is_affected}
use Rattle.iocm_plan.specs.Seen.{Side, seen, side}
use Rattle.iocm_plan.specs.declared.runs.DeviceRun.{DeviceRun}
use Rattle.iocm_plan.proofs.Itself.{no_object_of_itself, told_of_itself}
use Rattle.iocm_objects.specs.Objects.{object_if, objects, objects_at}
use Rattle.iocm_objects.specs.declared.object.Change.TheVariants.{Added, Deleted, Changed}
use Rattle.iocm_objects.specs.declared.object.Object.{Object}
use Rattle.iocm_impact.specs.Impact.{Change, counts_among, counts_on, images_of, is_affected_by}
use Rattle.iocm_impact.specs.declared.counts.ImageCounts.{ImageCounts}
use Rattle.iocm_impact.specs.declared.named_image.NamedImage.{NamedImage}
use Rattle.iocm_plan_filter.specs.Left.{objects_left}
use Rattle.iocm_plan_text.specs.Asked.{Asked, is_filtered}
use Rattle.iocm_plan_text.specs.Laws.{PlanOfItselfIsOneLine}
use Rattle.iocm_plan_text.specs.Notes.{notes_of_decks}
use Rattle.iocm_plan_text.specs.Sections as sections
use Rattle.iocm_plan_text.specs.Summary.{nothing}
use Rattle.iocm_plan_text.specs.Whole.{plan_text, tells, told_impact, told_objects, told_off_and_on}

-- ---- objects

no_change : (c : Configuration) (p : Pair) → objects_at c c p.0 ≡ []
no_change c p =
    let none = no_object_of_itself c p.0 in
    ap (object_if c c p.0)
    (λ i. cond (none.not_added i) (Some Added)
    (cond (none.not_deleted i) (Some Deleted) (cond (none.not_changed i) (Some Changed) None)))

none_of : (c : Configuration) (ps : List Pair) → flat_map (λ (p : Pair). objects_at c c p.0) ps ≡ []
none_of c [] = refl
none_of c (p ∷ ps) = ap₂ (λ xs ys. xs ++ ys) (no_change c p) (none_of c ps)

no_objects : (c : Configuration) → objects c c ≡ []
no_objects c = none_of c (pairs_of (entries c) (entries c))

none_left : (a : Asked) (c : Configuration) → told_objects a c c ≡ []
none_left a c = ap (objects_left a.wanted a.is_lost c c) (no_objects c) ∙ of_none a.is_lost
  where
    of_none : (is_lost : Bool) → objects_left a.wanted is_lost c c [] ≡ []
    of_none true = refl
    of_none false = refl

-- ---- images

left_unaffected : (b : Bool) (s : Option Side) → affects (cond b (effect_between s s) no_effect) ≡ false
left_unaffected true s = (told_of_itself s).not_affected
left_unaffected false s = refl

none_affects : (w : Wanted) (is_lost : Bool) (c : Configuration) (i : Image) (rs : List DeviceRun)
    → is_affected (effects_on_runs w is_lost (lookup_of c) (lookup_of c) i rs) ≡ false
none_affects w is_lost c i [] = refl
none_affects w is_lost c i (r ∷ rs) =
    let s = side (lookup_of c) i r.first.set r.first.number in
    ap₂ (λ x y. x || y)
    (left_unaffected (is_asked_of_both w r.first s s && is_told is_lost (seen s) (seen s)) s)
    (none_affects w is_lost c i rs)

module _ (x : Change) (same : (i : NamedImage) → is_affected_by x i ≡ false) where
  none_counted : (is : List NamedImage) → counts_among x is ≡ []
  none_counted [] = refl
  none_counted (i ∷ is) = ap (λ b. map (counts_on x) (cond b (i ∷ filter (is_affected_by x) is)
      (filter (is_affected_by x) is))) (same i) ∙ none_counted is

no_images : (a : Asked) (c : Configuration) → (told_impact a c c).images ≡ []
no_images a c =
    let x : Change = record { wanted = a.wanted; is_lost = a.is_lost; before = c; after = c } in
    none_counted x (λ i. none_affects a.wanted a.is_lost c i.image _) (images_of x)

-- ---- the whole

untold : (a : Asked) (c : Configuration) → sections.is_told (told_objects a c c) (told_impact a c c) ≡ false
untold a c = ap₂ (λ (os : List Object) (is : List ImageCounts). not (length os == 0) || not (length is == 0))
    (none_left a c) (no_images a c)

pub of_itself : PlanOfItselfIsOneLine
unfolding plan_text tells
of_itself a c = record {
  text = ap (λ b. cond b (sections.sections a (notes_of_decks a.is_of_decks c c) (told_off_and_on a c c (told_objects a c c))
      (told_objects a c c) (told_impact a c c)) (nothing (is_filtered a))) (untold a c);
  untold = untold a c;
}
