-- Units of which one answers to an address of the other have ranges that meet. So where no two
-- ranges meet, no unit answers to an address of another.
use Rattle.std.proofs.Common.{◌≡◌, ℕ, Bool, true, false, ◌&&◌, ◌||◌, nat_eq, None, List, [], ◌∷◌, ◌++◌, map, refl, sym}
use Rattle.std.proofs.Common.{ap, ◌∙◌, arith}
use Rattle.std.proofs.lemmas.Bool.{false≢true}
use Rattle.std.proofs.lemmas.Bool.Decides.{nat_tests}
use Rattle.std.proofs.lemmas.List.Folds.{list_any-append}
use Rattle.std.specs.Cmp.{tied_itself}
use Rattle.std.specs.List.{list_any, flat_map}
use Rattle.std.specs.Ordering.{is_lt}
use Rattle.iocm_types.specs.declared.unit_range.UnitRange.{UnitRange}
use Rattle.iocm_types.specs.KeyOrder.{keys_total}
use Rattle.iocm_types.proofs.Tests.{absent}
use Rattle.iocm_model.specs.Machine.Configuration.{Configuration, records_of}
use Rattle.iocm_model.specs.Machine.Record.{Rec, UnitRecord, key_of, id, resource, image, limit, path, unit, device}
use Rattle.iocm_model.specs.Machine.Record.{online}
use Rattle.iocm_model.specs.Rules.EachRule.{breaks_v14, answers_for, overlap, share_link, cuadd_or_zero, stands_before}
use Rattle.iocm_lookup.specs.First.{first_key}
use Rattle.iocm_lookup.proofs.Anys.{any_weaker, or_later}
use Rattle.iocm_lookup.proofs.Apart.{Common}
use Rattle.iocm_lookup.proofs.KindWalks.{GivesOfKind}
use Rattle.iocm_lookup.proofs.Walks.{first_of_any}
use Rattle.iocm_unit_rules.specs.declared.link_ranges.LinkRange.{LinkRange}
use Rattle.iocm_unit_rules.specs.LinkNumbers.{link_numbers}
use Rattle.iocm_unit_rules.specs.LinkRanges.{range_on, ranges_on, link_ranges, meet, any_meet}
use Rattle.iocm_unit_rules.proofs.LinksApart.{clashes, with_one, of_unit, second}
use Rattle.iocm_unit_rules.proofs.RangesApart.{flips}

-- records of other kinds have none
pub only_units_have : GivesOfKind 5 link_ranges
only_units_have (id x) is = refl
only_units_have (resource x) is = refl
only_units_have (image x) is = refl
only_units_have (limit x) is = refl
only_units_have (path x) is = refl
only_units_have (unit x) is = absurd (false≢true (sym is))
only_units_have (device x) is = refl
only_units_have (online x) is = refl

-- ---- items of lists that pass tests

neither_first : (a b : Bool) → (a || b) ≡ false → a ≡ false
neither_first true b h = h
neither_first false b h = refl

neither_second : (a b : Bool) → (a || b) ≡ false → b ≡ false
neither_second true b h = absurd (false≢true (sym h))
neither_second false b h = h

or_first : (a b : Bool) → a ≡ true → (a || b) ≡ true
or_first a b h = ap (λ c. c || b) h

by_pairs : (a b c d : Bool) → ((a || b) || (c || d)) ≡ ((a || c) || (b || d))
by_pairs true b c d = refl
by_pairs false true true d = refl
by_pairs false true false d = refl
by_pairs false false c d = refl

module _ {A : Type 0} where
  any_either : (f g : A → Bool) (xs : List A) → list_any (λ x. f x || g x) xs ≡ (list_any f xs || list_any g xs)
  any_either f g [] = refl
  any_either f g (x ∷ xs) =
      ap (λ b. (f x || g x) || b) (any_either f g xs) ∙ by_pairs (f x) (g x) (list_any f xs) (list_any g xs)

  any_mapped : {B : Type 0} (f : A → Bool) (g : B → A) (xs : List B)
      → list_any f (map g xs) ≡ list_any (λ x. f (g x)) xs
  any_mapped f g [] = refl
  any_mapped f g (x ∷ xs) = ap (λ b. f (g x) || b) (any_mapped f g xs)

-- ---- lists whose ranges meet

-- some range of one meets one of the other
some_meet : List LinkRange → List LinkRange → Bool
some_meet rs others = list_any (λ r. list_any (meet r) others) rs

meet_either : (rs xs ys : List LinkRange) → some_meet rs (xs ++ ys) ≡ (some_meet rs xs || some_meet rs ys)
unfolding some_meet
meet_either rs xs ys = (λ i. list_any (λ r. list_any-append (meet r) xs ys i) rs)
    ∙ any_either (λ r. list_any (meet r) xs) (λ r. list_any (meet r) ys) rs

none_met_by : (xs ys : List LinkRange) → some_meet xs ys ≡ false → some_meet ys xs ≡ false
unfolding some_meet
none_met_by xs [] none = refl
none_met_by xs (y ∷ ys) none =
    let either = sym (any_either (λ r. meet r y) (λ r. list_any (meet r) ys) xs) ∙ none in
    (λ i. ((λ j. list_any (λ r. flips y r j) xs) ∙ neither_first (list_any (λ r. meet r y) xs) (some_meet xs ys) either)
    i
    || none_met_by xs ys (neither_second (list_any (λ r. meet r y) xs) (some_meet xs ys) either) i)

none_across : (xs ys : List LinkRange) → any_meet (xs ++ ys) ≡ false → some_meet xs ys ≡ false
unfolding some_meet
none_across [] ys none = refl
none_across (x ∷ xs) ys none =
    let here = sym (list_any-append (meet x) xs ys)
    ∙ neither_first (list_any (meet x) (xs ++ ys)) (any_meet (xs ++ ys)) none in
    (λ i. neither_second (list_any (meet x) xs) (list_any (meet x) ys) here i
    || none_across xs ys (neither_second (list_any (meet x) (xs ++ ys)) (any_meet (xs ++ ys)) none) i)

none_later : (xs ys : List LinkRange) → any_meet (xs ++ ys) ≡ false → any_meet ys ≡ false
none_later [] ys none = none
none_later (x ∷ xs) ys none =
    none_later xs ys (neither_second (list_any (meet x) (xs ++ ys)) (any_meet (xs ++ ys)) none)

-- ---- items that have ranges

module _ {A : Type 0} (ranges : A → List LinkRange) (bad : A → A → Bool) (itself : (x : A) → bad x x ≡ false)
    (meets : (x y : A) → bad x y ≡ true → some_meet (ranges x) (ranges y) ≡ true) where
  not_bad : (x y : A) → some_meet (ranges x) (ranges y) ≡ false → bad x y ≡ false
  not_bad x y none = by (bad x y) refl
    where
      by : (b : Bool) → bad x y ≡ b → bad x y ≡ false
      by true is = absurd (false≢true (sym none ∙ meets x y is))
      by false is = is

  none_with : (x : A) (ys : List A) → some_meet (ranges x) (flat_map ranges ys) ≡ false
      → list_any (λ y. bad x y || bad y x) ys ≡ false
  none_with x [] none = refl
  none_with x (y ∷ ys) none =
      let either = sym (meet_either (ranges x) (ranges y) (flat_map ranges ys)) ∙ none in
      let here = neither_first (some_meet (ranges x) (ranges y)) (some_meet (ranges x) (flat_map ranges ys)) either in
      (λ i. (not_bad x y here i || not_bad y x (none_met_by (ranges x) (ranges y) here) i)
      || none_with x ys (neither_second (some_meet (ranges x) (ranges y)) (some_meet (ranges x) (flat_map ranges ys))
      either) i)

  -- where no two ranges of all items meet, no item is bad for another
  none_bad : (xs : List A) → any_meet (flat_map ranges xs) ≡ false → list_any (λ x. list_any (bad x) xs) xs ≡ false
  none_bad [] none = refl
  none_bad (x ∷ xs) none =
      let either = sym (any_either (bad x) (λ y. bad y x) xs)
      ∙ none_with x xs (none_across (ranges x) (flat_map ranges xs) none) in
      let others = any_either (λ y. bad y x) (λ y. list_any (bad y) xs) xs in
      (λ i. (itself x i || neither_first (list_any (bad x) xs) (list_any (λ y. bad y x) xs) either i)
      || (others ∙ (λ j. neither_second (list_any (bad x) xs) (list_any (λ y. bad y x) xs) either j
      || none_bad xs (none_later (ranges x) (flat_map ranges xs) none) j)) i)

-- ---- units

same_value : (a b : ℕ) → nat_eq a b ≡ true → b ≡ a
same_value a b h = grind (arith, nat_tests)

itself_same : (n : ℕ) → nat_eq n n ≡ true
itself_same n = grind (arith, nat_tests)

-- a range on one of these links that passes a test
on_link : (test : LinkRange → Bool) (rs : List UnitRange) (n : ℕ) (ns : List ℕ) → list_any (nat_eq n) ns ≡ true
    → list_any test (ranges_on rs n) ≡ true
    → list_any test (flat_map (ranges_on rs) ns) ≡ true
on_link test rs n [] there passes = absurd (false≢true there)
on_link test rs n (m ∷ ms) there passes =
    list_any-append test (ranges_on rs m) (flat_map (ranges_on rs) ms)
    ∙ by (nat_eq n m) refl there (λ more. on_link test rs n ms more passes)
  where
    by : (b : Bool) → nat_eq n m ≡ b → (b || list_any (nat_eq n) ms) ≡ true
        → (list_any (nat_eq n) ms ≡ true → list_any test (flat_map (ranges_on rs) ms) ≡ true)
        → (list_any test (ranges_on rs m) || list_any test (flat_map (ranges_on rs) ms)) ≡ true
    by true is h more = or_first _ _ (ap (λ k. list_any test (ranges_on rs k)) (same_value n m is) ∙ passes)
    by false is h more = or_later (list_any test (ranges_on rs m)) _ (more h)

-- units with a link in common whose ranges overlap have ranges that meet
units_meet : (rs others : List UnitRange) (ns ms : List ℕ) → Common ns ms
    → list_any (λ r. list_any (overlap r) others) rs ≡ true
    → some_meet (flat_map (ranges_on rs) ns) (flat_map (ranges_on others) ms) ≡ true
unfolding some_meet
units_meet rs others ns ms common overlaps =
    on_link (λ r. list_any (meet r) (flat_map (ranges_on others) ms)) rs common.number ns common.its
    (any_mapped (λ r. list_any (meet r) (flat_map (ranges_on others) ms)) (range_on common.number) rs
    ∙ any_weaker (λ r. list_any (overlap r) others)
    (λ r. list_any (meet (range_on common.number r)) (flat_map (ranges_on others) ms)) with_other rs overlaps)
  where
    with_other : (r : UnitRange) → list_any (overlap r) others ≡ true
        → list_any (meet (range_on common.number r)) (flat_map (ranges_on others) ms) ≡ true
    with_other r h = on_link (meet (range_on common.number r)) others common.number ms common.others
        (any_mapped (meet (range_on common.number r)) (range_on common.number) others
        ∙ (λ i. list_any (λ s. itself_same common.number i && overlap r s) others) ∙ h)

-- ---- the rule

of_units : (u : UnitRecord) (r : Rec) → answers_for u r ≡ true → some_meet (link_ranges (unit u)) (link_ranges r) ≡ true
of_units u (unit v) h =
    units_meet u.ranges v.ranges (link_numbers (unit u)) (link_numbers (unit v)) (of_unit u (unit v) h)
    (second (share_link u v && nat_eq (cuadd_or_zero u) (cuadd_or_zero v))
    (list_any (λ r. list_any (overlap r) v.ranges) u.ranges) h)
of_units u (id x) h = absurd (false≢true h)
of_units u (resource x) h = absurd (false≢true h)
of_units u (image x) h = absurd (false≢true h)
of_units u (limit x) h = absurd (false≢true h)
of_units u (path x) h = absurd (false≢true h)
of_units u (device x) h = absurd (false≢true h)
of_units u (online x) h = absurd (false≢true h)

clash_meets : (r other : Rec) → clashes r other ≡ true → some_meet (link_ranges r) (link_ranges other) ≡ true
unfolding clashes
clash_meets (unit u) other h = of_units u other h
clash_meets (id x) other h = absurd (false≢true h)
clash_meets (resource x) other h = absurd (false≢true h)
clash_meets (image x) other h = absurd (false≢true h)
clash_meets (limit x) other h = absurd (false≢true h)
clash_meets (path x) other h = absurd (false≢true h)
clash_meets (device x) other h = absurd (false≢true h)
clash_meets (online x) other h = absurd (false≢true h)

-- where no two ranges meet, no unit breaks the rule
pub none_meet : (c : Configuration) → any_meet (flat_map link_ranges (records_of c)) ≡ false
    → None ≡ first_key (breaks_v14 c) c
none_meet c none = by (list_any (breaks_v14 c) (records_of c)) refl
  where
    bad : Rec → Rec → Bool
    bad r other = stands_before other r && clashes r other

    not_itself : (r : Rec) → bad r r ≡ false
    not_itself r = ap (λ o. is_lt o && clashes r r) (tied_itself keys_total (key_of r))

    by : (b : Bool) → list_any (breaks_v14 c) (records_of c) ≡ b → None ≡ first_key (breaks_v14 c) c
    by true is = absurd (false≢true (sym (none_bad link_ranges bad not_itself
        (λ r other h. clash_meets r other (second (stands_before other r) (clashes r other) h)) (records_of c) none)
        ∙ any_weaker (breaks_v14 c) (λ r. list_any (bad r) (records_of c)) (with_one c) (records_of c) is))
    by false is = sym (absent _ (first_of_any (breaks_v14 c) (records_of c) ∙ is))
