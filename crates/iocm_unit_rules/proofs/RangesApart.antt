-- Ranges that follow each other are apart, also in another order. Ranges that are apart follow each
-- other once they are sorted.
use Rattle.std.proofs.Common.{◌≡◌, ℕ, ◌+◌, ◌<◌, ◌≤◌, Bool, true, false, ◌&&◌, ◌||◌, nat_eq, nat_lt, List, [], ◌∷◌}
use Rattle.std.proofs.Common.{length, get_or, drop, sym, refl, ap, ◌∙◌, add-one, arith}
use Rattle.std.proofs.Math.ListN.{drop_of_length-le}
use Rattle.std.proofs.lemmas.Bool.{false≢true}
use Rattle.std.proofs.lemmas.Bool.Decides.{nat_tests}
use Rattle.std.proofs.lemmas.List.Elements.{recursion_from_All}
use Rattle.std.proofs.lemmas.List.Sorted.{IsPermutation-sym, All-permutation}
use Rattle.std.proofs.lemmas.Map.Keys.{IsDistinct-IsPermutation}
use Rattle.std.specs.List.{list_any, All, AllByRecursion, IsDistinct}
use Rattle.std.specs.List.Sorted.{IsPermutation, IsSortedBy}
use Rattle.std.specs.Ordering.{is_lt, nat_cmp, ordering_then}
use Rattle.iocm_types.proofs.Lists.{drop-item}
use Rattle.iocm_unit_rules.specs.declared.link_ranges.LinkRange.{LinkRange}
use Rattle.iocm_unit_rules.specs.LinkRanges.{meet, any_meet, is_behind, do_follow, do_follow_behind}

-- ---- one range more

pub follows_on : (a b : LinkRange) (rs : List LinkRange) (i : ℕ) → i < length rs → b ≡ get_or rs i b
    → is_behind a b ≡ true
    → do_follow_behind a (drop i rs) ≡ do_follow_behind b (drop (i + 1) rs)
follows_on a b rs i within item behind =
    ap (do_follow_behind a) (drop-item rs i b within item) ∙ ap (λ t. t && do_follow_behind b (drop (i + 1) rs)) behind

pub follows_no_more : (a b : LinkRange) (rs : List LinkRange) (i : ℕ) → i < length rs → b ≡ get_or rs i b
    → is_behind a b ≡ false → do_follow_behind a (drop i rs) ≡ false
follows_no_more a b rs i within item before =
    ap (do_follow_behind a) (drop-item rs i b within item) ∙ ap (λ t. t && do_follow_behind b (drop (i + 1) rs)) before

pub all_followed : (a : LinkRange) (rs : List LinkRange) (i : ℕ) → length rs ≤ i → do_follow_behind a (drop i rs) ≡ true
all_followed a rs i past = ap (do_follow_behind a) (drop_of_length-le rs past)

pub ruleset following_steps = (follows_on, follows_no_more, all_followed)

-- ---- ranges that follow are apart

first : (a b : Bool) → (a && b) ≡ true → a ≡ true
first true b h = refl
first false b h = absurd (false≢true h)

second : (a b : Bool) → (a && b) ≡ true → b ≡ true
second true b h = h
second false b h = absurd (false≢true h)

-- a range behind one that is behind another is behind that
further_behind : (a b c : LinkRange) → is_behind a b ≡ true → is_behind b c ≡ true → is_behind a c ≡ true
further_behind a b c one next = grind (arith, nat_tests)

-- a range behind another doesn't meet it
apart : (a b : LinkRange) → is_behind a b ≡ true → meet a b ≡ false
apart a b behind = grind (arith, nat_tests)

apart_from_all : (a b : LinkRange) (rs : List LinkRange)
    → ((c : LinkRange) → is_behind b c ≡ true → is_behind a c ≡ true) → do_follow_behind b rs ≡ true
    → AllByRecursion (λ c. meet a c ≡ false) rs
apart_from_all a b [] further follow = tt
apart_from_all a b (c ∷ cs) further follow =
    let behind = further c (first (is_behind b c) (do_follow_behind c cs) follow) in (
      apart a c behind,
      apart_from_all a c cs (λ d h. further_behind a c d behind h)
          (second (is_behind b c) (do_follow_behind c cs) follow),
    )

follow_later : (a : LinkRange) (rs : List LinkRange) → do_follow_behind a rs ≡ true → do_follow rs ≡ true
follow_later a [] follow = refl
follow_later a (b ∷ bs) follow = second (is_behind a b) (do_follow_behind b bs) follow

all_apart : (rs : List LinkRange) → do_follow rs ≡ true → IsDistinct meet rs
unfolding IsDistinct
all_apart [] follow = tt
all_apart (r ∷ rs) follow = (apart_from_all r r rs (λ c h. h) follow, all_apart rs (follow_later r rs follow))

-- ---- in another order

none_meets : (r : LinkRange) (rs : List LinkRange) → AllByRecursion (λ c. meet r c ≡ false) rs
    → list_any (meet r) rs ≡ false
none_meets r [] all = refl
none_meets r (c ∷ cs) all = (λ i. all.0 i || none_meets r cs all.1 i)

no_two_meet : (rs : List LinkRange) → IsDistinct meet rs → any_meet rs ≡ false
unfolding IsDistinct
no_two_meet [] distinct = refl
no_two_meet (r ∷ rs) distinct = (λ i. none_meets r rs distinct.0 i || no_two_meet rs distinct.1 i)

both_flipped : (a b : Bool) → (a && b) ≡ (b && a)
both_flipped true true = refl
both_flipped true false = refl
both_flipped false true = refl
both_flipped false false = refl

same_flipped : (m n : ℕ) → nat_eq m n ≡ nat_eq n m
same_flipped m n = grind (arith, nat_tests)

-- two that meet do so in both directions
pub flips : (a b : LinkRange) → meet a b ≡ meet b a
flips a b = (λ i. same_flipped a.link b.link i
    && both_flipped (nat_lt a.addresses.start (b.addresses.start + b.addresses.count))
    (nat_lt b.addresses.start (a.addresses.start + a.addresses.count)) i)

-- where they follow each other in another order, no two meet
pub apart_in_order : (rs sorted : List LinkRange) → IsPermutation rs sorted → do_follow sorted ≡ true
    → any_meet rs ≡ false
apart_in_order rs sorted permutation follow =
    no_two_meet rs (IsDistinct-IsPermutation meet flips sorted rs (IsPermutation-sym rs sorted permutation)
    (all_apart sorted follow))

-- ---- ranges in order that are apart follow each other

-- the number of a range's link, and its first address
abbrev pub range_key : LinkRange → ℕ × ℕ
range_key r = (r.link, r.addresses.start)

-- a range begins before another
abbrev pub is_before : LinkRange → LinkRange → Bool
is_before a b = is_lt (ordering_then (nat_cmp a.link b.link) (nat_cmp a.addresses.start b.addresses.start))

-- one that doesn't begin before another, and has addresses and doesn't meet it, is behind it
next_behind : (a b : LinkRange) → is_before b a ≡ false → 0 < b.addresses.count → meet a b ≡ false
    → is_behind a b ≡ true
next_behind a b up some none = grind (arith, nat_tests)

later_in_order : (r : LinkRange) (rs : List LinkRange) → IsSortedBy is_before (r ∷ rs) → IsSortedBy is_before rs
later_in_order r rs up k d low within =
    sym (λ i. is_before (get_or (r ∷ rs) (add-one (k + 1) i) d) (get_or (r ∷ rs) (add-one k i) d))
    ∙ up (k + 1) d (omega arith) (omega arith)

rest_follows : (r : LinkRange) (rs : List LinkRange) → IsSortedBy is_before (r ∷ rs)
    → AllByRecursion (λ s. 0 < s.addresses.count) (r ∷ rs) → IsDistinct meet (r ∷ rs)
    → do_follow_behind r rs ≡ true
unfolding IsDistinct
rest_follows r [] up some distinct = refl
rest_follows r (s ∷ ss) up some distinct =
    (λ i. next_behind r s (up 0 r (omega arith) (omega arith)) some.1.0 distinct.0.0 i
    && rest_follows s ss (later_in_order r (s ∷ ss) up) some.1 distinct.1 i)

all_follow : (rs : List LinkRange) → IsSortedBy is_before rs → AllByRecursion (λ r. 0 < r.addresses.count) rs
    → IsDistinct meet rs → do_follow rs ≡ true
all_follow [] up some distinct = refl
all_follow (r ∷ rs) up some distinct = rest_follows r rs up some distinct

some_apart : (r : LinkRange) (rs : List LinkRange) → list_any (meet r) rs ≡ false
    → AllByRecursion (λ c. meet r c ≡ false) rs
some_apart r [] none = tt
some_apart r (c ∷ cs) none = by (meet r c) refl none (some_apart r cs)
  where
    by : (b : Bool) → meet r c ≡ b → (b || list_any (meet r) cs) ≡ false
        → (list_any (meet r) cs ≡ false → AllByRecursion (λ d. meet r d ≡ false) cs)
        → AllByRecursion (λ d. meet r d ≡ false) (c ∷ cs)
    by true is h more = absurd (false≢true (sym h))
    by false is h more = (is, more h)

distinct_from : (rs : List LinkRange) → any_meet rs ≡ false → IsDistinct meet rs
unfolding IsDistinct
distinct_from [] none = tt
distinct_from (r ∷ rs) none = by (list_any (meet r) rs) refl none (distinct_from rs)
  where
    by : (b : Bool) → list_any (meet r) rs ≡ b → (b || any_meet rs) ≡ false → (any_meet rs ≡ false → IsDistinct meet rs)
        → AllByRecursion (λ c. meet r c ≡ false) rs × IsDistinct meet rs
    by true is h more = absurd (false≢true (sym h))
    by false is h more = (some_apart r rs is, more h)

-- where all have addresses and no two meet, they follow each other once they are sorted
pub follow_in_order : (rs sorted : List LinkRange) → IsPermutation rs sorted → IsSortedBy is_before sorted
    → All (λ r. 0 < r.addresses.count) rs → any_meet rs ≡ false
    → do_follow sorted ≡ true
follow_in_order rs sorted permutation up some none =
    all_follow sorted up (recursion_from_All (λ r. 0 < r.addresses.count) sorted
    (All-permutation (λ r. 0 < r.addresses.count) rs sorted permutation some))
    (IsDistinct-IsPermutation meet flips rs sorted permutation (distinct_from rs none))
