-- What is gathered with one image more.
use Rattle.std.proofs.Common.{◌≡◌, ℕ, ◌+◌, ◌<◌, cond, Bool, true, false, List, [], ◌∷◌, ◌++◌, map, filter, fold, take}
use Rattle.std.proofs.Common.{drop, length, get_or, append_assoc, refl, sym, ap, ◌∙◌}
use Rattle.std.specs.List.{zip}
use Rattle.std.proofs.lemmas.List.{take_more}
use Rattle.std.proofs.lemmas.List.Sums.{fold_push}
use Rattle.iocm_types.proofs.Lists.{drop-item}
use Rattle.iocm_plan.specs.declared.effect.Effect.{Effect}
use Rattle.iocm_plan.specs.declared.runs.DeviceRun.{DeviceRun}
use Rattle.iocm_impact.specs.Gathered.{Gathered, counts_if, with_image}
use Rattle.iocm_impact.specs.Impact.{Change, blocks_from, counts_among, counts_on, effect_on, effects_on}
use Rattle.iocm_impact.specs.Impact.{is_affected_by, marks_among, marks_for, runs_of}
use Rattle.iocm_impact.specs.Marks.{either, marks_of, no_marks}
use Rattle.iocm_impact.specs.declared.counts.ImageCounts.{ImageCounts}
use Rattle.iocm_impact.specs.declared.marks.Marks.{Marks}
use Rattle.iocm_impact.specs.declared.named_image.NamedImage.{NamedImage}

-- an image with its counts, and those behind it
counts_more : (x : Change) (i : NamedImage) (is : List NamedImage)
    → counts_if (is_affected_by x i) i (counts_on x i).counts ++ counts_among x is ≡ counts_among x (i ∷ is)
counts_more x i is = by (is_affected_by x i)
  where
    by : (b : Bool) → counts_if b i (counts_on x i).counts ++ counts_among x is
        ≡ map (counts_on x) (cond b (i ∷ filter (is_affected_by x) is) (filter (is_affected_by x) is))
    by true = refl
    by false = refl

pub images_more : (x : Change) (front : List ImageCounts) (i : NamedImage) (is : List NamedImage)
    → (front ++ counts_if (is_affected_by x i) i (counts_on x i).counts) ++ counts_among x is
    ≡ front ++ counts_among x (i ∷ is)
images_more x front i is =
    append_assoc front (counts_if (is_affected_by x i) i (counts_on x i).counts) (counts_among x is)
    ∙ ap (λ rows. front ++ rows) (counts_more x i is)

-- the marks of each run with those for one image more
zipped : (g : DeviceRun → Marks) (h : DeviceRun → Effect) (rs : List DeviceRun)
    → map (λ (p : Marks × Marks). either p.0 p.1) (zip (map g rs) (map marks_of (map h rs)))
    ≡ map (λ r. either (g r) (marks_of (h r))) rs
zipped g h [] = refl
zipped g h (r ∷ rs) = ap (λ ms. either (g r) (marks_of (h r)) ∷ ms) (zipped g h rs)

one_image_more : (x : Change) (front : List NamedImage) (i : NamedImage)
    → map (λ (p : Marks × Marks). either p.0 p.1) (zip (marks_among x front) (map marks_of (effects_on x i)))
    ≡ marks_among x (front ++ i ∷ [])
one_image_more x front i =
    zipped (λ (r : DeviceRun). marks_for x front r.first) (λ (r : DeviceRun). effect_on x i.image r.first) (runs_of x)
    ∙ (λ j. map (λ (r : DeviceRun). sym (fold_push
    (λ m (i : NamedImage). either m (marks_of (effect_on x i.image r.first))) no_marks front i) j) (runs_of x))

-- ---- a loop over images

module _ (x : Change) (is : List NamedImage) (n : ℕ) (i : NamedImage) (within : n < length is) (item : i ≡ get_or is n i)
    (g h : Gathered) (rs : List DeviceRun) (es : List Effect) (runs : rs ≡ runs_of x) (effects : es ≡ effects_on x i)
    (put : h ≡ with_image g i rs es) where
  put_more : h ≡ with_image g i (runs_of x) (effects_on x i)
  put_more = put ∙ (λ j. with_image g i (runs j) (effects j))

  pub images_go_on : g.images ++ counts_among x (drop n is) ≡ counts_among x is
      → h.images ++ counts_among x (drop (n + 1) is) ≡ counts_among x is
  images_go_on so_far = ap (λ (k : Gathered). k.images ++ counts_among x (drop (n + 1) is)) put_more
      ∙ images_more x g.images i (drop (n + 1) is)
      ∙ ap (λ ks. g.images ++ counts_among x ks) (sym (drop-item is n i within item)) ∙ so_far

  pub blocks_go_on : blocks_from x g.blocks (drop n is) ≡ blocks_from x [] is
      → blocks_from x h.blocks (drop (n + 1) is) ≡ blocks_from x [] is
  blocks_go_on so_far = ap (λ (k : Gathered). blocks_from x k.blocks (drop (n + 1) is)) put_more
      ∙ ap (blocks_from x g.blocks) (sym (drop-item is n i within item)) ∙ so_far

  pub marks_go_on : g.marks ≡ marks_among x (take n is) → h.marks ≡ marks_among x (take (n + 1) is)
  marks_go_on so_far = ap (λ (k : Gathered). k.marks) put_more
      ∙ ap (λ ms. map (λ (p : Marks × Marks). either p.0 p.1) (zip ms (map marks_of (effects_on x i)))) so_far
      ∙ one_image_more x (take n is) i
      ∙ ap (marks_among x) (ap (λ (k : NamedImage). take n is ++ k ∷ []) item ∙ sym (take_more is n i within))
