-- How many devices a set has: one record more, and that their numbers at opening are below.
use Rattle.std.proofs.Common.{◌≡◌, ℕ, zero, suc, ◌+◌, ◌^◌, ◌<◌, ◌≤◌, Bool, true, false, cond, nat_eq, nat_le, ◌&&◌}
use Rattle.std.proofs.Common.{◌||◌, List, [], ◌∷◌, map, filter, length, get_or, replicate, nat_lt, refl, sym, ap, ◌∙◌}
use Rattle.std.proofs.Common.{arith}
use Rattle.std.proofs.lemmas.Bool.{false≢true}
use Rattle.std.proofs.lemmas.Bool.Decides.{nat_tests}
use Rattle.std.proofs.lemmas.List.Folds.{list_any-append}
use Rattle.std.specs.FinMap.{entries, len, len-entries}
use Rattle.std.specs.List.{list_any, flat_map, filter_map}
use Rattle.iocm_types.specs.declared.key.Key.{Key}
use Rattle.iocm_model.specs.Machine.Configuration.{Configuration, Lookup, as_device, devices_of, lookup_of, records_of}
use Rattle.iocm_model.specs.Machine.Numbering.{subsystems, sets, is_reached, reached_devices, numbers_from}
use Rattle.iocm_model.specs.Machine.Record.{Rec, DeviceRecord, id, resource, image, limit, path, unit, device, online}
use Rattle.iocm_lookup.specs.Kinds.{of_kind}
use Rattle.iocm_numbers.specs.Opening.{rows_at_opening}
use Rattle.iocm_device_rules.specs.Past.{is_row_past, limit_there}
use Rattle.iocm_device_rules.specs.SetCounts.{count_among, is_limit_below, is_limit_below_in, is_set_over}

-- ---- one record more

zero_more : (n : ℕ) → n ≡ 0 + n
zero_more n = omega arith

pub among_more : (set : ℕ) (r : Rec) (rs : List Rec)
    → count_among set (r ∷ rs) ≡ count_among set (r ∷ []) + count_among set rs
among_more set (device d) rs = by (nat_eq d.set set)
  where
    by : (b : Bool) → length
        (cond b (d ∷ filter (λ (e : DeviceRecord). nat_eq e.set set) (filter_map as_device rs))
        (filter (λ (e : DeviceRecord). nat_eq e.set set) (filter_map as_device rs)))
        ≡ length (cond b (d ∷ []) []) + count_among set rs
    by true = omega arith
    by false = zero_more (count_among set rs)
among_more set (id x) rs = zero_more (count_among set rs)
among_more set (resource x) rs = zero_more (count_among set rs)
among_more set (image x) rs = zero_more (count_among set rs)
among_more set (limit x) rs = zero_more (count_among set rs)
among_more set (path x) rs = zero_more (count_among set rs)
among_more set (unit x) rs = zero_more (count_among set rs)
among_more set (online x) rs = zero_more (count_among set rs)

one_at_most : (set : ℕ) (r : Rec) → count_among set (r ∷ []) ≤ 1
one_at_most set (device d) = by (nat_eq d.set set)
  where
    by : (b : Bool) → length (cond b (d ∷ []) []) ≤ 1
    by true = omega arith
    by false = omega arith
one_at_most set (id x) = omega arith
one_at_most set (resource x) = omega arith
one_at_most set (image x) = omega arith
one_at_most set (limit x) = omega arith
one_at_most set (path x) = omega arith
one_at_most set (unit x) = omega arith
one_at_most set (online x) = omega arith

-- no more than there are records
pub at_most_records : (set : ℕ) (rs : List Rec) → count_among set rs ≤ length rs
at_most_records set [] = omega arith
at_most_records set (r ∷ rs) =
    let more = among_more set r rs in let one = one_at_most set r in let later = at_most_records set rs in omega arith

-- ---- numbers from a number on

rows_below : (lk : Lookup) (css set n : ℕ) (ds : List ℕ) → n + length ds ≤ limit_there lk css set
    → list_any (is_row_past lk) (numbers_from css set n ds) ≡ false
rows_below lk css set n [] below = refl
rows_below lk css set n (d ∷ ds) below = both (rows_below lk css set (n + 1) ds (omega arith))
  where
    here : nat_le (limit_there lk css set) n ≡ false
    here = grind (arith, nat_tests)

    both : list_any (is_row_past lk) (numbers_from css set (n + 1) ds) ≡ false
        → (nat_le (limit_there lk css set) n || list_any (is_row_past lk) (numbers_from css set (n + 1) ds)) ≡ false
    both later = (λ i. here i || later i)

fewer : (p q : DeviceRecord → Bool) (ds : List DeviceRecord)
    → length (map (λ (d : DeviceRecord). d.number) (filter (λ (d : DeviceRecord). p d && q d) ds))
    ≤ length (filter p ds)
fewer p q [] = omega arith
fewer p q (d ∷ ds) = by (p d) (q d) (fewer p q ds)
  where
    by : (a b : Bool) → length (map (λ (e : DeviceRecord). e.number) (filter (λ (e : DeviceRecord). p e && q e) ds))
        ≤ length (filter p ds)
        → length (map (λ (e : DeviceRecord). e.number)
        (cond (a && b) (d ∷ filter (λ (e : DeviceRecord). p e && q e) ds)
        (filter (λ (e : DeviceRecord). p e && q e) ds)))
        ≤ length (cond a (d ∷ filter p ds) (filter p ds))
    by true true more = omega arith
    by true false more = omega arith
    by false b more = more

reached_at_most : (c : Configuration) (css set : ℕ)
    → length (reached_devices c css set) ≤ count_among set (records_of c)
reached_at_most c css set = fewer (λ (d : DeviceRecord). nat_eq d.set set) (is_reached (lookup_of c) css) (devices_of c)

in_set : (c : Configuration) (css set : ℕ) → is_set_over c css set ≡ false
    → list_any (is_row_past (lookup_of c)) (numbers_from css set 0 (reached_devices c css set)) ≡ false
in_set c css set within =
    let few = reached_at_most c css set in
    let below : count_among set (records_of c) ≤ limit_there (lookup_of c) css set = grind (arith, nat_tests) in
    rows_below (lookup_of c) css set 0 (reached_devices c css set) (omega arith)

-- ---- all of them

none_of_all : {A B : Type 0} (p : B → Bool) (gives : A → List B) (over : A → Bool)
    → ((x : A) → over x ≡ false → list_any p (gives x) ≡ false)
    → (xs : List A) → list_any over xs ≡ false → list_any p (flat_map gives xs) ≡ false
none_of_all p gives over each [] none = refl
none_of_all p gives over each (x ∷ xs) none =
    list_any-append p (gives x) (flat_map gives xs) ∙ by (over x) refl none (none_of_all p gives over each xs)
  where
    by : (b : Bool) → over x ≡ b → (b || list_any over xs) ≡ false
        → (list_any over xs ≡ false → list_any p (flat_map gives xs) ≡ false)
        → (list_any p (gives x) || list_any p (flat_map gives xs)) ≡ false
    by true is h more = absurd (false≢true (sym h))
    by false is h more = (λ i. each x is i || more h i)

-- where no set has more devices than a limit, no number at opening is at or above it
pub none_over : (c : Configuration) → list_any (λ css. list_any (is_set_over c css) sets) subsystems ≡ false
    → list_any (is_row_past (lookup_of c)) (rows_at_opening c) ≡ false
none_over c none = none_of_all (is_row_past (lookup_of c))
    (λ css. flat_map (λ set. numbers_from css set 0 (reached_devices c css set)) sets)
    (λ css. list_any (is_set_over c css) sets)
    (λ css within. none_of_all (is_row_past (lookup_of c)) (λ set. numbers_from css set 0 (reached_devices c css set))
    (is_set_over c css) (in_set c css) sets within)
    subsystems none

-- ---- counting

-- before the first record
pub none_counted : (s : ℕ) → ◌≡◌ {A = ℕ} (get_or {A = ℕ} (0 ∷ 0 ∷ 0 ∷ 0 ∷ []) s 0) 0
none_counted zero = refl
none_counted (suc zero) = refl
none_counted (suc (suc zero)) = refl
none_counted (suc (suc (suc zero))) = refl
none_counted (suc (suc (suc (suc k)))) = refl

-- other records are not counted
devices_of_kind : (rs : List Rec) → filter_map as_device (of_kind 6 rs) ≡ filter_map as_device rs
devices_of_kind [] = refl
devices_of_kind (device d ∷ rs) = ap (λ ds. d ∷ ds) (devices_of_kind rs)
devices_of_kind (id x ∷ rs) = devices_of_kind rs
devices_of_kind (resource x ∷ rs) = devices_of_kind rs
devices_of_kind (image x ∷ rs) = devices_of_kind rs
devices_of_kind (limit x ∷ rs) = devices_of_kind rs
devices_of_kind (path x ∷ rs) = devices_of_kind rs
devices_of_kind (unit x ∷ rs) = devices_of_kind rs
devices_of_kind (online x ∷ rs) = devices_of_kind rs

pub counted_by_kind : (s : ℕ) (rs : List Rec) → count_among s (of_kind 6 rs) ≡ count_among s rs
counted_by_kind s rs = ap (λ ds. length (filter (λ (d : DeviceRecord). nat_eq d.set s) ds)) (devices_of_kind rs)

-- a count fits as long as the records do
pub count_fits : (s n : ℕ) (rs : List Rec) → n ≤ count_among s rs → length rs < 2 ^ 63 → n + 1 < 2 ^ 64
count_fits s n rs least fits = let most = at_most_records s rs in omega arith

-- ---- limits and numbers for each set

module _ (p q : ℕ → Bool) (less : (s : ℕ) → s < 4 → q s ≡ false → p s ≡ false) where
  at_each_set : list_any q sets ≡ false → list_any p sets ≡ false
  at_each_set none = by (q 0) (q 1) (q 2) (q 3) refl refl refl refl none
    where
      by : (a b c d : Bool) → q 0 ≡ a → q 1 ≡ b → q 2 ≡ c → q 3 ≡ d → (a || (b || (c || (d || false)))) ≡ false
          → list_any p sets ≡ false
      by true b c d q0 q1 q2 q3 h = absurd (false≢true (sym h))
      by false true c d q0 q1 q2 q3 h = absurd (false≢true (sym h))
      by false false true d q0 q1 q2 q3 h = absurd (false≢true (sym h))
      by false false false true q0 q1 q2 q3 h = absurd (false≢true (sym h))
      by false false false false q0 q1 q2 q3 h =
          (λ i. less 0 (omega arith) q0 i
          || (less 1 (omega arith) q1 i || (less 2 (omega arith) q2 i || (less 3 (omega arith) q3 i || false))))

none_fewer : {A : Type 0} (p q : A → Bool) → ((x : A) → q x ≡ false → p x ≡ false) → (xs : List A)
    → list_any q xs ≡ false → list_any p xs ≡ false
none_fewer p q less [] none = refl
none_fewer p q less (x ∷ xs) none = by (q x) refl none (none_fewer p q less xs)
  where
    by : (b : Bool) → q x ≡ b → (b || list_any q xs) ≡ false → (list_any q xs ≡ false → list_any p xs ≡ false)
        → (p x || list_any p xs) ≡ false
    by true is h more = absurd (false≢true (sym h))
    by false is h more = (λ i. less x is i || more h i)

each_of_four : (n s : ℕ) → s < 4 → get_or (replicate 4 n) s 0 ≡ n
each_of_four n zero within = refl
each_of_four n (suc zero) within = refl
each_of_four n (suc (suc zero)) within = refl
each_of_four n (suc (suc (suc zero))) within = refl
each_of_four n (suc (suc (suc (suc k)))) within = absurd (omega arith)

as_many : (es : List (Key × Rec)) → length (map (λ (e : Key × Rec). e.1) es) ≡ length es
as_many [] = refl
as_many (e ∷ es) = ap suc (as_many es)

in_few : (c : Configuration) (css s : ℕ) → s < 4 → is_limit_below c (replicate 4 (len c)) css s ≡ false
    → is_set_over c css s ≡ false
in_few c css s within below =
    let most : count_among s (records_of c) ≤ length (records_of c) = at_most_records s (records_of c) in
    let same : length (records_of c) ≡ len c = as_many (entries c) ∙ sym (len-entries c) in
    let named : get_or (replicate 4 (len c)) s 0 ≡ len c = each_of_four (len c) s within in
    grind (arith, nat_tests)

-- where no limit is below the number of all records, no set has more devices than a limit
pub none_with_few : (c : Configuration) → list_any (is_limit_below_in c (replicate 4 (len c))) subsystems ≡ false
    → list_any (λ css. list_any (is_set_over c css) sets) subsystems ≡ false
none_with_few c = none_fewer (λ css. list_any (is_set_over c css) sets) (is_limit_below_in c (replicate 4 (len c)))
    (λ css. at_each_set (is_set_over c css) (is_limit_below c (replicate 4 (len c)) css) (in_few c css)) subsystems

-- with the number of its devices for each set, a limit is below where the set has more
pub over_by_counts : (c : Configuration) (in_sets : List ℕ)
    → ((s : ℕ) → s < 4 → get_or in_sets s 0 ≡ count_among s (records_of c))
    → list_any (is_limit_below_in c in_sets) subsystems ≡ list_any (λ css. list_any (is_set_over c css) sets) subsystems
over_by_counts c in_sets exact = ap (λ (f : ℕ → Bool). list_any f subsystems) (λ i css. in_one css i)
  where
    below : ℕ → ℕ → ℕ → Bool
    below css s n = nat_lt (limit_there (lookup_of c) css s) n

    in_one : (css : ℕ) → is_limit_below_in c in_sets css ≡ list_any (is_set_over c css) sets
    in_one css = (λ i. below css 0 (exact 0 (omega arith) i) || (below css 1 (exact 1 (omega arith) i)
        || (below css 2 (exact 2 (omega arith) i) || (below css 3 (exact 3 (omega arith) i) || false))))
