-- Counts and tests of devices, made for a whole run at once by its first device.
use Rattle.std.proofs.Common.{◌≡◌, ℕ, ◌+◌, ◌^◌, ◌<◌, ◌≤◌, ◌||◌, Bool, true, false, cond}
use Rattle.std.proofs.Common.{List, [], ◌∷◌, refl, sym, ap, ◌∙◌, arith}
use Rattle.std.proofs.Common.{drop, filter, get_or, map}
use Rattle.std.specs.Prelude.{length, sum_by, count_by}
use Rattle.std.specs.List.{list_any}
use Rattle.std.proofs.lemmas.List.Sums.{length-filter, sum_by-cons, sum_by-drop_more, sum_by-le-sum_by}
use Rattle.std.proofs.lemmas.List.{drop_all, length-map}
use Rattle.iocm_types.proofs.Lists.{drop-item}
use Rattle.iocm_model.specs.Machine.Record.{DeviceRecord}
use Rattle.iocm_deck_writer.specs.Device.{Run, continues, runs, runs_from}
use Rattle.iocm_sight.proofs.Alike.{SameSight, continues_alike}

-- the devices of a run, if the first passes a test
abbrev pub run_count : (DeviceRecord → Bool) → Run → ℕ
run_count p r = cond (p r.first) r.count 0

-- a test that is the same of devices with the same set, control units and candidates
abbrev pub IsOfSight : (DeviceRecord → Bool) → Type 0
IsOfSight p = (a b : DeviceRecord) → SameSight a b → p a ≡ p b

one_more : (a b : Bool) (k n : ℕ) → a ≡ b → cond a (k + 1) 0 + n ≡ cond a k 0 + (cond b 1 0 + n)
one_more true true k n same = omega arith
one_more true false k n same = cc
one_more false true k n same = cc
one_more false false k n same = omega arith

module _ (p : DeviceRecord → Bool) (of_sight : IsOfSight p) where
  counts_from : (r : Run) (ds : List DeviceRecord)
      → sum_by (run_count p) (runs_from r ds) ≡ run_count p r + count_by p ds
  counts_from r [] = sum_by-cons (run_count p) r []
  counts_from r (d ∷ ds) =
      by (continues r d) refl (counts_from (record { first = r.first; count = r.count + 1 }) ds)
      (counts_from (record { first = d; count = 1 }) ds)
      ∙ ap (λ n. run_count p r + n) (sym (sum_by-cons (λ x. cond (p x) 1 0) d ds))
    where
      by : (b : Bool) → continues r d ≡ b
          → sum_by (run_count p) (runs_from (record { first = r.first; count = r.count + 1 }) ds)
          ≡ cond (p r.first) (r.count + 1) 0 + count_by p ds
          → sum_by (run_count p) (runs_from (record { first = d; count = 1 }) ds) ≡ cond (p d) 1 0 + count_by p ds
          → sum_by (run_count p) (cond b (runs_from (record { first = r.first; count = r.count + 1 }) ds)
          (r ∷ runs_from (record { first = d; count = 1 }) ds)) ≡ run_count p r + (cond (p d) 1 0 + count_by p ds)
      by true is longer next = longer
          ∙ one_more (p r.first) (p d) r.count (count_by p ds) (of_sight r.first d (continues_alike r d is))
      by false is longer next = sum_by-cons (run_count p) r (runs_from (record { first = d; count = 1 }) ds)
          ∙ ap (λ n. run_count p r + n) next

  -- how many devices pass
  pub counts : (ds : List DeviceRecord) → sum_by (run_count p) (runs ds) ≡ count_by p ds
  counts [] = refl
  counts (d ∷ ds) = counts_from (record { first = d; count = 1 }) ds ∙ sym (sum_by-cons (λ x. cond (p x) 1 0) d ds)

  twice : (a b rest : Bool) → a ≡ b → (a || rest) ≡ (a || (b || rest))
  twice true b rest same = refl
  twice false true rest same = cc
  twice false false rest same = refl

  any_from : (r : Run) (ds : List DeviceRecord)
      → list_any (λ (r : Run). p r.first) (runs_from r ds) ≡ (p r.first || list_any p ds)
  any_from r [] = refl
  any_from r (d ∷ ds) =
      by (continues r d) refl (any_from (record { first = r.first; count = r.count + 1 }) ds)
      (any_from (record { first = d; count = 1 }) ds)
    where
      by : (b : Bool) → continues r d ≡ b
          → list_any (λ (r : Run). p r.first) (runs_from (record { first = r.first; count = r.count + 1 }) ds)
          ≡ (p r.first || list_any p ds)
          → list_any (λ (r : Run). p r.first) (runs_from (record { first = d; count = 1 }) ds) ≡ (p d || list_any p ds)
          → list_any (λ (r : Run). p r.first) (cond b (runs_from (record { first = r.first; count = r.count + 1 }) ds)
          (r ∷ runs_from (record { first = d; count = 1 }) ds)) ≡ (p r.first || (p d || list_any p ds))
      by true is longer next = longer
          ∙ twice (p r.first) (p d) (list_any p ds) (of_sight r.first d (continues_alike r d is))
      by false is longer next = ap (λ b. p r.first || b) next

  -- whether a device passes
  pub any : (ds : List DeviceRecord) → list_any (λ (r : Run). p r.first) (runs ds) ≡ list_any p ds
  any [] = refl
  any (d ∷ ds) = any_from (record { first = d; count = 1 }) ds

-- how many devices there are
all_counted : (ds : List DeviceRecord) → count_by (λ _. true) ds ≡ length ds
all_counted [] = refl
all_counted (d ∷ ds) =
    let more = all_counted ds in
    let step : count_by (λ _. true) (d ∷ ds) ≡ 1 + count_by (λ _. true) ds = sum_by-cons (λ _. 1) d ds in omega arith

pub devices_in : (ds : List DeviceRecord) → sum_by (λ (r : Run). r.count) (runs ds) ≡ length ds
devices_in ds = counts (λ _. true) (λ _ _ _. refl) ds ∙ all_counted ds

-- no count is more than all
at_most : (b : Bool) (k : ℕ) → cond b k 0 ≤ k
at_most true k = omega arith
at_most false k = omega arith

pub counts_within : (p : DeviceRecord → Bool) (rs : List Run)
    → sum_by (run_count p) rs ≤ sum_by (λ (r : Run). r.count) rs
counts_within p rs = sum_by-le-sum_by (run_count p) (λ (r : Run). r.count) rs (λ r. at_most (p r.first) r.count)

pub few : (ds : List DeviceRecord) → length ds < 2 ^ 64 → sum_by (λ (r : Run). r.count) (runs ds) < 2 ^ 64
few ds within = let all = devices_in ds in omega arith

-- ---- a loop over runs: the count so far with that of the runs that are left is that of all

module _ (p : DeviceRecord → Bool) (rs : List Run) (i : ℕ) (r : Run) (count size : ℕ) (is : Bool)
    (within : i < length rs) (item : r ≡ get_or rs i r) (sized : size ≡ r.count) (decides : is ≡ p r.first)
    (left : count + sum_by (run_count p) (drop i rs) ≡ sum_by (run_count p) rs) where
  step : sum_by (run_count p) (drop i rs) ≡ cond is size 0 + sum_by (run_count p) (drop (i + 1) rs)
  step = sum_by-drop_more (run_count p) rs i r within
      ∙ ap (λ (x : Run). run_count p x + sum_by (run_count p) (drop (i + 1) rs)) (sym item)
      ∙ (λ j. cond (sym decides j) (sym sized j) 0 + sum_by (run_count p) (drop (i + 1) rs))

  -- there is room for one run more
  pub has_room : sum_by (λ (x : Run). x.count) rs < 2 ^ 64 → count + cond is size 0 < 2 ^ 64
  has_room few = let next = step in let all = counts_within p rs in omega arith

  pub goes_on : (n : ℕ) → n ≡ count + cond is size 0
      → n + sum_by (run_count p) (drop (i + 1) rs) ≡ sum_by (run_count p) rs
  goes_on n new = let next = step in omega arith

-- at the end it is that of the devices
pub is_done : (p : DeviceRecord → Bool) → IsOfSight p → (rs : List Run) (ds : List DeviceRecord) (i count : ℕ)
    → rs ≡ runs ds → length rs ≤ i
    → count + sum_by (run_count p) (drop i rs) ≡ sum_by (run_count p) rs → count ≡ count_by p ds
is_done p of_sight rs ds i count all past left =
    let none : sum_by (run_count p) (drop i rs) ≡ 0 = ap (sum_by (run_count p)) (drop_all i rs past) in
    let whole : sum_by (run_count p) rs ≡ count_by p ds = ap (sum_by (run_count p)) all ∙ counts p of_sight ds in
    omega arith

-- the devices that pass, by their numbers
pub numbered : (p : DeviceRecord → Bool) (ds : List DeviceRecord)
    → length (map (λ (d : DeviceRecord). d.number) (filter p ds)) ≡ count_by p ds
numbered p ds = length-map (filter p ds) (λ (d : DeviceRecord). d.number) ∙ length-filter p ds

-- ---- a search over runs: none so far passes

module _ (p : Run → Bool) (rs : List Run) (i : ℕ) (r : Run) (within : i < length rs) (item : r ≡ get_or rs i r) where
  next_test : list_any p (drop i rs) ≡ (p r || list_any p (drop (i + 1) rs))
  next_test = ap (list_any p) (drop-item rs i r within item)

  pub one_found : p r ≡ true → list_any p (drop i rs) ≡ list_any p rs → list_any p rs ≡ true
  one_found is left = sym left ∙ next_test ∙ ap (λ b. b || list_any p (drop (i + 1) rs)) is

  pub none_so_far : p r ≡ false → list_any p (drop i rs) ≡ list_any p rs
      → list_any p (drop (i + 1) rs) ≡ list_any p rs
  none_so_far isn't left = sym (next_test ∙ ap (λ b. b || list_any p (drop (i + 1) rs)) isn't) ∙ left
