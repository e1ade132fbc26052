-- Counts by runs are counts of devices.
use Rattle.std.proofs.Common.{◌≡◌, ℕ, ◌+◌, cond, Bool, true, false, ◌||◌, List, [], ◌∷◌, ◌++◌, map, fold, zero, suc}
use Rattle.std.proofs.Common.{refl, sym, ap, ◌∙◌, arith}
use Rattle.std.specs.Prelude.{length, sum_by, count_by}
use Rattle.std.specs.List.{flat_map, list_any, zip}
use Rattle.std.proofs.lemmas.List.Sums.{sum_by-append, sum_by-cons}
use Rattle.iocm_types.specs.declared.image.Image.{Image}
use Rattle.iocm_model.specs.Machine.Configuration.{Configuration}
use Rattle.iocm_filter.specs.Wanted.{Wanted}
use Rattle.iocm_sight.specs.declared.devices.DeviceKey.{DeviceKey}
use Rattle.iocm_plan.specs.Runs.{devices_asked, devices_from, devices_in_run, runs_asked}
use Rattle.iocm_plan.specs.ToldAlike.{Continues}
use Rattle.iocm_plan.specs.declared.runs.DeviceRun.{DeviceRun}
use Rattle.iocm_plan.proofs.RunDevices.{runs_told_alike}
use Rattle.iocm_impact.specs.Counts.{count_with, counts_by, marked_count}
use Rattle.iocm_impact.specs.Impact.{Change, effect_on, images_of, marks_for, runs_of}
use Rattle.iocm_impact.specs.Laws.{CountsAreRows, DevicesAreCountedOnce, IsOfKeyed, devices_of, is_marked}
use Rattle.iocm_impact.specs.Marks.{either, has, marks_of, no_marks}
use Rattle.iocm_impact.specs.declared.marks.Mark.{Mark}
use Rattle.iocm_impact.specs.declared.marks.Mark.TheVariants as mark
use Rattle.iocm_impact.specs.declared.marks.Marks.{Marks}
use Rattle.iocm_impact.specs.declared.named_image.NamedImage.{NamedImage}
use Rattle.iocm_impact.proofs.ByRuns.{by_runs, with_first, with_own}
use Rattle.iocm_impact.proofs.Numbered.{have_number, marks_unnumbered}

-- ---- sums

sum_by-map : {A B : Type 0} (f : B → ℕ) (g : A → B) (xs : List A) → sum_by f (map g xs) ≡ sum_by (λ x. f (g x)) xs
sum_by-map f g [] = refl
sum_by-map f g (x ∷ xs) = sum_by-cons f (g x) (map g xs) ∙ ap (λ n. f (g x) + n) (sum_by-map f g xs)
    ∙ sym (sum_by-cons (λ y. f (g y)) x xs)

sum_by-flat_map : {A B : Type 0} (f : B → ℕ) (g : A → List B) (xs : List A)
    → sum_by f (flat_map g xs) ≡ sum_by (λ x. sum_by f (g x)) xs
sum_by-flat_map f g [] = refl
sum_by-flat_map f g (x ∷ xs) = sum_by-append f (g x) (flat_map g xs)
    ∙ ap (λ n. sum_by f (g x) + n) (sum_by-flat_map f g xs) ∙ sym (sum_by-cons (λ y. sum_by f (g y)) x xs)

-- sums of the same are the same
same_sums : {A : Type 0} (f g : A → ℕ) → ((x : A) → f x ≡ g x) → (xs : List A) → sum_by f xs ≡ sum_by g xs
same_sums f g same xs = λ j. sum_by (λ x. same x j) xs

-- ---- the devices of a run

run_length : (set number count : ℕ) → length (devices_from set number count) ≡ count
run_length set number zero = refl
run_length set number (suc n) = ap suc (run_length set (number + 1) n)

-- devices with one value: all of them have the mark, or none has
constant_count : (m : Mark) (v : Marks) (ks : List DeviceKey)
    → count_by (λ (t : DeviceKey × Marks). has m t.1) (map (λ (k : DeviceKey). (k, v)) ks)
    ≡ cond (has m v) (length ks) 0
constant_count m v [] = none (has m v)
  where
    none : (b : Bool) → zero ≡ cond b zero zero
    none true = refl
    none false = refl
constant_count m v (k ∷ ks) =
    sum_by-cons (λ (t : DeviceKey × Marks). cond (has m t.1) 1 0) (k, v) (map (λ (k : DeviceKey). (k, v)) ks)
    ∙ ap (λ n. cond (has m v) 1 0 + n) (constant_count m v ks) ∙ one_more (has m v) (length ks)
  where
    one_more : (b : Bool) (n : ℕ) → cond b 1 0 + cond b n 0 ≡ cond b (suc n) 0
    one_more true n = omega arith
    one_more false n = refl

-- the sum over runs, each with its marks
zipped_sum : (m : Mark) (g : DeviceRun → Marks) (rs : List DeviceRun)
    → count_with m rs (map g rs) ≡ sum_by (λ (r : DeviceRun). cond (has m (g r)) r.count 0) rs
zipped_sum m g [] = refl
zipped_sum m g (r ∷ rs) = sum_by-cons (marked_count m) (r, g r) (zip rs (map g rs))
    ∙ ap (λ n. cond (has m (g r)) r.count 0 + n) (zipped_sum m g rs)
    ∙ sym (sum_by-cons (λ (r : DeviceRun). cond (has m (g r)) r.count 0) r rs)

module _ (w : Wanted) (c d : Configuration) (so : DeviceKey → Marks)
    (alike : (r : DeviceRun) (k : DeviceKey) → Continues w c d r k → so r.first ≡ so k) (m : Mark) where
  run_count : (r : DeviceRun) → count_by (λ (t : DeviceKey × Marks). has m t.1) (with_first w c d so alike r)
      ≡ cond (has m (so r.first)) r.count 0
  run_count r = constant_count m (so r.first) (devices_in_run r)
      ∙ ap (λ n. cond (has m (so r.first)) n 0) (run_length r.first.set r.first.number r.count)

  pub counted_by_runs : count_with m (runs_asked w c d) (map (λ (r : DeviceRun). so r.first) (runs_asked w c d))
      ≡ count_by (λ k. has m (so k)) (devices_asked w c d)
  counted_by_runs =
      zipped_sum m (λ r. so r.first) (runs_asked w c d)
      ∙ same_sums (λ (r : DeviceRun). cond (has m (so r.first)) r.count 0)
      (λ r. count_by (λ (t : DeviceKey × Marks). has m t.1) (with_first w c d so alike r)) (λ r. sym (run_count r))
      (runs_asked w c d)
      ∙ sym (sum_by-flat_map (λ (t : DeviceKey × Marks). cond (has m t.1) 1 0) (with_first w c d so alike)
      (runs_asked w c d))
      ∙ ap (λ ts. count_by (λ (t : DeviceKey × Marks). has m t.1) ts) (by_runs w c d so alike)
      ∙ sum_by-map (λ (t : DeviceKey × Marks). cond (has m t.1) 1 0) (with_own w c d so alike) (devices_asked w c d)

-- ---- of an image

pub marks_alike : (x : Change) → IsOfKeyed x → (i : Image) (r : DeviceRun) (k : DeviceKey)
    → Continues x.wanted x.before x.after r k
    → marks_of (effect_on x i r.first) ≡ marks_of (effect_on x i k)
marks_alike x keyed i r k h =
    sym (marks_unnumbered r.first.number (effect_on x i r.first) (have_number x keyed i r.first))
    ∙ ap marks_of (runs_told_alike x.wanted x.is_lost x.before x.after i r k h)
    ∙ marks_unnumbered k.number (effect_on x i k) (have_number x keyed i k)

map_map : {A B C : Type 0} (f : B → C) (g : A → B) (xs : List A) → map f (map g xs) ≡ map (λ x. f (g x)) xs
map_map f g [] = refl
map_map f g (x ∷ xs) = ap (λ ys. f (g x) ∷ ys) (map_map f g xs)

pub counts_are_rows : CountsAreRows
counts_are_rows x keyed i = ap counts_by (λ j m. (
    ap (λ ms. count_with m (runs_of x) ms)
    (map_map marks_of (λ (r : DeviceRun). effect_on x i.image r.first) (runs_of x))
    ∙ counted_by_runs x.wanted x.before x.after (λ k. marks_of (effect_on x i.image k))
    (marks_alike x keyed i.image) m) j)

-- ---- of some image

for_some : (x : Change) → IsOfKeyed x → (is : List NamedImage) (r : DeviceRun) (k : DeviceKey)
    → Continues x.wanted x.before x.after r k → marks_for x is r.first ≡ marks_for x is k
for_some x keyed is r k h =
    λ j. fold (λ m (i : NamedImage). either m (marks_alike x keyed i.image r k h j)) no_marks is

has_either : (m : Mark) (a b : Marks) → has m (either a b) ≡ (has m a || has m b)
has_either mark.Gone a b = refl
has_either mark.Came a b = refl
has_either mark.Changed a b = refl
has_either mark.Same a b = refl
has_either mark.Lost a b = refl
has_either mark.Interrupted a b = refl
has_either mark.OnePath a b = refl
has_either mark.OffAndOn a b = refl

has_none : (m : Mark) → has m no_marks ≡ false
has_none mark.Gone = refl
has_none mark.Came = refl
has_none mark.Changed = refl
has_none mark.Same = refl
has_none mark.Lost = refl
has_none mark.Interrupted = refl
has_none mark.OnePath = refl
has_none mark.OffAndOn = refl

or_false : (a : Bool) → (a || false) ≡ a
or_false true = refl
or_false false = refl

or_assoc : (a b c : Bool) → ((a || b) || c) ≡ (a || (b || c))
or_assoc true b c = refl
or_assoc false b c = refl

has_fold : (x : Change) (k : DeviceKey) (m : Mark) (is : List NamedImage) (a : Marks)
    → has m (fold (λ m (i : NamedImage). either m (marks_of (effect_on x i.image k))) a is)
    ≡ (has m a || list_any (is_marked x m k) is)
has_fold x k m [] a = sym (or_false (has m a))
has_fold x k m (i ∷ is) a = has_fold x k m is (either a (marks_of (effect_on x i.image k)))
    ∙ ap (λ b. b || list_any (is_marked x m k) is) (has_either m a (marks_of (effect_on x i.image k)))
    ∙ or_assoc (has m a) (is_marked x m k i) (list_any (is_marked x m k) is)

has_for_some : (x : Change) (m : Mark) (is : List NamedImage) (k : DeviceKey)
    → has m (marks_for x is k) ≡ list_any (is_marked x m k) is
has_for_some x m is k = has_fold x k m is no_marks ∙ ap (λ b. b || list_any (is_marked x m k) is) (has_none m)

pub devices_counted_once : DevicesAreCountedOnce
devices_counted_once x keyed = ap counts_by (λ j m. (
    counted_by_runs x.wanted x.before x.after (marks_for x (images_of x)) (for_some x keyed (images_of x)) m
    ∙ (λ l. count_by (λ k. has_for_some x m (images_of x) k l) (devices_of x))) j)
