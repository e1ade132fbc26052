-- Numbers that rise are apart, also in another order.
use Rattle.std.proofs.Common.{◌≡◌, ℕ, ◌+◌, ◌<◌, ◌≤◌, Bool, true, false, not, ◌&&◌, ◌||◌, nat_eq, nat_lt, nat_le, List}
use Rattle.std.proofs.Common.{[], ◌∷◌, length, get_or, drop, T, refl, sym, ap, subst, ◌∙◌, arith}
use Rattle.std.proofs.Math.ListN.{drop_of_length-le}
use Rattle.std.proofs.lemmas.Bool.{false≢true}
use Rattle.std.proofs.lemmas.Bool.Decides.{nat_tests}
use Rattle.std.proofs.lemmas.List.Sorted.{IsPermutation-sym, IsNonDecreasingBy-from_sort}
use Rattle.std.proofs.lemmas.Map.Keys.{IsDistinct-IsPermutation, IsStrictlyIncreasing-from_distinct}
use Rattle.std.proofs.lemmas.Map.Keys.{sorted_from_strictly_increasing}
use Rattle.std.specs.List.{list_any, AllByRecursion, IsDistinct}
use Rattle.std.specs.List.Sorted.{IsPermutation, IsSorted, IsStrictlySortedBy}
use Rattle.std.specs.Ordering.{nat_cmp, is_lt}
use Rattle.std.specs.declared.cmp.Ordering.TheVariants.{Less}
use Rattle.iocm_types.proofs.Lists.{drop-item}
use Rattle.iocm_model.proofs.Numbers.Lowest.{less}
use Rattle.iocm_model.specs.Rules.EachRule.{has_twice}
use Rattle.iocm_lookup.specs.Rising.{do_rise, do_rise_above}

-- ---- one number more

pub rises_on : (n x : ℕ) (xs : List ℕ) (i : ℕ) → i < length xs → x ≡ get_or xs i x → nat_le x n ≡ false
    → do_rise_above n (drop i xs) ≡ do_rise_above x (drop (i + 1) xs)
rises_on n x xs i within item above = ap (do_rise_above n) (drop-item xs i x within item)
    ∙ (let up : nat_lt n x ≡ true = grind (arith, nat_tests) in ap (λ b. b && do_rise_above x (drop (i + 1) xs)) up)

pub rises_no_more : (n x : ℕ) (xs : List ℕ) (i : ℕ) → i < length xs → x ≡ get_or xs i x → nat_le x n ≡ true
    → do_rise_above n (drop i xs) ≡ false
rises_no_more n x xs i within item below = ap (do_rise_above n) (drop-item xs i x within item)
    ∙ (let up : nat_lt n x ≡ false = grind (arith, nat_tests) in ap (λ b. b && do_rise_above x (drop (i + 1) xs)) up)

pub all_rose : (n : ℕ) (xs : List ℕ) (i : ℕ) → length xs ≤ i → do_rise_above n (drop i xs) ≡ true
all_rose n xs i past = ap (do_rise_above n) (drop_of_length-le xs past)

pub ruleset rising_steps = (rises_on, rises_no_more, all_rose)

-- ---- numbers that rise are apart

above_all : (m n : ℕ) (xs : List ℕ) → m ≤ n → do_rise_above n xs ≡ true → list_any (nat_eq m) xs ≡ false
above_all m n [] le up = refl
above_all m n (x ∷ xs) le up = by (nat_lt n x) refl up (above_all m x xs)
  where
    by : (b : Bool) → nat_lt n x ≡ b → (b && do_rise_above x xs) ≡ true
        → (m ≤ x → do_rise_above x xs ≡ true → list_any (nat_eq m) xs ≡ false)
        → (nat_eq m x || list_any (nat_eq m) xs) ≡ false
    by true is up more =
        let apart : nat_eq m x ≡ false = grind (arith, nat_tests) in
        let further : m ≤ x = grind (arith, nat_tests) in
        (λ i. apart i || more further up i)
    by false is up more = absurd (false≢true up)

second : (a b : Bool) → (a && b) ≡ true → b ≡ true
second true b h = h
second false b h = absurd (false≢true h)

rise_later : (x : ℕ) (xs : List ℕ) → do_rise_above x xs ≡ true → do_rise xs ≡ true
rise_later x [] up = refl
rise_later x (y ∷ ys) up = second (nat_lt x y) (do_rise_above y ys) up

pub rising_apart : (xs : List ℕ) → do_rise xs ≡ true → has_twice xs ≡ false
rising_apart [] up = refl
rising_apart (x ∷ xs) up = (λ i. above_all x x xs (omega arith) up i || rising_apart xs (rise_later x xs up) i)

-- ---- numbers in order that are apart rise

all_apart : (x : ℕ) (xs : List ℕ) → list_any (nat_eq x) xs ≡ false → AllByRecursion (λ y. nat_eq x y ≡ false) xs
all_apart x [] none = tt
all_apart x (y ∷ ys) none = by (nat_eq x y) refl none (all_apart x ys)
  where
    by : (b : Bool) → nat_eq x y ≡ b → (b || list_any (nat_eq x) ys) ≡ false
        → (list_any (nat_eq x) ys ≡ false → AllByRecursion (λ z. nat_eq x z ≡ false) ys)
        → AllByRecursion (λ z. nat_eq x z ≡ false) (y ∷ ys)
    by true is h more = cc
    by false is h more = (is, more h)

none_equal : (x : ℕ) (xs : List ℕ) → AllByRecursion (λ y. nat_eq x y ≡ false) xs → list_any (nat_eq x) xs ≡ false
none_equal x [] all = refl
none_equal x (y ∷ ys) all = (λ i. all.0 i || none_equal x ys all.1 i)

distinct_from : (xs : List ℕ) → has_twice xs ≡ false → IsDistinct nat_eq xs
unfolding IsDistinct
distinct_from [] none = tt
distinct_from (x ∷ xs) none = by (list_any (nat_eq x) xs) refl none (distinct_from xs)
  where
    by : (b : Bool) → list_any (nat_eq x) xs ≡ b → (b || has_twice xs) ≡ false
        → (has_twice xs ≡ false → IsDistinct nat_eq xs)
        → AllByRecursion (λ y. nat_eq x y ≡ false) xs × IsDistinct nat_eq xs
    by true is h more = cc
    by false is h more = (all_apart x xs is, more h)

apart_from : (xs : List ℕ) → IsDistinct nat_eq xs → has_twice xs ≡ false
unfolding IsDistinct
apart_from [] distinct = refl
apart_from (x ∷ xs) distinct = (λ i. none_equal x xs distinct.0 i || apart_from xs distinct.1 i)

rise_above_from : (x : ℕ) (xs : List ℕ) → AllByRecursion (λ y. nat_cmp x y ≡ Less) xs → IsStrictlySortedBy nat_cmp xs
    → do_rise_above x xs ≡ true
unfolding IsStrictlySortedBy
rise_above_from x [] all sorted = refl
rise_above_from x (y ∷ ys) all sorted =
    let less : x < y = less x y (subst T (sym (ap is_lt all.0)) tt) in
    let up : nat_lt x y ≡ true = grind (arith, nat_tests) in
    (λ i. up i && rise_above_from y ys sorted.0 sorted.1 i)

rise_from : (xs : List ℕ) → IsStrictlySortedBy nat_cmp xs → do_rise xs ≡ true
unfolding IsStrictlySortedBy
rise_from [] sorted = refl
rise_from (x ∷ xs) sorted = rise_above_from x xs sorted.0 sorted.1

flips : (x y : ℕ) → nat_eq x y ≡ nat_eq y x
flips x y = grind (arith, nat_tests)

-- of numbers in another order and sorted
pub sorted_apart : (xs ys : List ℕ) → IsPermutation xs ys → IsSorted nat_cmp ys → not (do_rise ys) ≡ has_twice xs
sorted_apart xs ys permutation sorted = by (do_rise ys) refl (has_twice xs) refl
  where
    back : do_rise ys ≡ true → has_twice xs ≡ false
    back up = apart_from xs (IsDistinct-IsPermutation nat_eq flips ys xs (IsPermutation-sym xs ys permutation)
        (distinct_from ys (rising_apart ys up)))

    there : has_twice xs ≡ false → do_rise ys ≡ true
    there none = rise_from ys
        (sorted_from_strictly_increasing ys
        (IsStrictlyIncreasing-from_distinct ys (IsNonDecreasingBy-from_sort (λ x. x) ys sorted)
        (IsDistinct-IsPermutation nat_eq flips xs ys permutation (distinct_from xs none))))

    by : (a : Bool) → do_rise ys ≡ a → (b : Bool) → has_twice xs ≡ b → not a ≡ b
    by true is false none = refl
    by true is true twice = absurd (false≢true (sym (back is) ∙ twice))
    by false is false none = absurd (false≢true (sym is ∙ there none))
    by false is true twice = refl
