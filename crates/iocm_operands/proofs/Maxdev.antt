-- What the reader of MAXDEV gives are limits: of ascending channel subsystems, and in each of
-- ascending sets.
use Rattle.std.proofs.Common.{◌≡◌, ◌≢◌, ℕ, zero, suc, ◌+◌, ◌<◌, ◌≤◌, ◌==◌, nat_lt, Bool, true, false, cond, Option}
use Rattle.std.proofs.Common.{Some, None, List, [], ◌∷◌, ◌++◌, map, filter, length, unwrap_or, All, refl, sym, ap, ◌∙◌}
use Rattle.std.proofs.Common.{subst, arith, append-nil, add-one, lt-ltb, ltb-true, eqb-true}
use Rattle.std.proofs.lemmas.List.Elements.{All-nil, All-cons, All-head, All-tail, All-append}
use Rattle.std.proofs.lemmas.Map.Keys.{IsStrictlyIncreasing-from_sorted}
use Rattle.std.specs.List.{AllByRecursion, filter_map, flat_map, list_any}
use Rattle.std.specs.List.Sorted.{IsStrictlyIncreasing, IsStrictlySortedBy}
use Rattle.std.specs.Option.{option_map}
use Rattle.std.specs.Ordering.{nat_cmp}
use Rattle.std.specs.declared.cmp.Ordering.TheVariants.{Less, Equal, Greater}
use Rattle.iocm_model.specs.Machine.Record.{LimitRecord}
use Rattle.iocm_operands.specs.declared.limits.LimitPlace.{LimitPlace}
use Rattle.iocm_operands.specs.Again.{IsLimit, AreLimits}
use Rattle.iocm_operands.specs.Given.{GivesLimits}
use Rattle.iocm_operands.specs.Limits.{limit_of, limit_item, limit_at, limits_in}
use Rattle.iocm_values.specs.CssLists.{begins_with_css, begins_with_group, is_group, css_number, has_items, group}
use Rattle.iocm_values.specs.CssLists.{group_of, by_css_items, in_css_order, by_css}
use Rattle.iocm_values.specs.Digits.{decimal_of}
use Rattle.iocm_values.specs.Reading.{◌>>=◌, every, every_at, gathered}
use Rattle.iocm_values.specs.Value.{Value, word, list, items, word_text}
use Rattle.iocm_operands.proofs.Given.{no_value, same_value, step_gave, map_gave, test_gave, decimal_small, every_gave}
use Rattle.iocm_operands.proofs.Grouped.{all_css, AreCss, all_small}
use Rattle.iocm_operands.proofs.Ordered.{all_ordered, filter_both}
use Rattle.iocm_operands.proofs.Places.{Ascend}

-- ---- each item of a list by channel subsystem, also where groups may lack items

module _ {A : Type 0} (P : A → Type 0) (may_lack : Bool) (read : ℕ → Value → Option A)
    (is : (css : ℕ) (v : Value) (a : A) → read css v ≡ Some a → P a) where
  group_all : (vs : List Value) (ys : List A) → group may_lack read vs ≡ Some ys → All P ys
  group_all [] ys e = no_value ys e
  group_all (list inner ∷ vs) ys e = no_value ys e
  group_all (word text ∷ vs) ys e =
      let some = test_gave (has_items may_lack vs) (css_number text >>= λ n. every (read n) vs) ys e in
      let gave = step_gave (css_number text) (λ n. every (read n) vs) ys some.1 in
      (every_gave P (read gave.0) (is gave.0) vs ys gave.2).0

  groups_all : (vs : List Value) (ys : List A) → gathered (group_of may_lack read) vs ≡ Some ys → All P ys
  unfolding gathered
  groups_all [] ys e = subst (All P) (same_value [] ys e) (All-nil P)
  groups_all (v ∷ vs) ys e =
      let first = step_gave (group_of may_lack read v)
      (λ front. gathered (group_of may_lack read) vs >>= λ rest. Some (front ++ rest)) ys e in
      let rest = step_gave (gathered (group_of may_lack read) vs) (λ others. Some (first.0 ++ others)) ys first.2 in
      let inner = step_gave (items v) (group may_lack read) first.0 first.1 in
      subst (All P) (same_value (first.0 ++ rest.0) ys rest.2)
      (All-append P first.0 rest.0 (group_all inner.0 first.0 inner.2) (groups_all vs rest.0 rest.1))

  items_all : (vs : List Value) (ys : List A) → by_css_items may_lack read vs ≡ Some ys → All P ys
  items_all vs ys e = by (begins_with_css vs) (begins_with_group vs) (list_any is_group vs) e
    where
      by : (alone groups mixed : Bool)
          → cond alone (group may_lack read vs)
          (cond groups (gathered (group_of may_lack read) vs) (cond mixed None (every (read 0) vs))) ≡ Some ys
          → All P ys
      by true groups mixed e = group_all vs ys e
      by false true mixed e = groups_all vs ys e
      by false false true e = no_value ys e
      by false false false e = (every_gave P (read 0) (is 0) vs ys e).0

  by_css_all : (css_of : A → ℕ) (v : Value) (ys : List A) → by_css may_lack read css_of v ≡ Some ys → All P ys
  by_css_all css_of v ys e =
      let outer = step_gave (items v >>= by_css_items may_lack read) (λ xs. Some (in_css_order css_of xs)) ys e in
      let level = step_gave (items v) (by_css_items may_lack read) outer.0 outer.1 in
      subst (All P) (same_value (in_css_order css_of outer.0) ys outer.2)
      (all_ordered css_of P outer.0 all_css (items_all level.0 outer.0 level.2))

-- ---- a place

-- the limit of a place, if it has one, is up to 65535
abbrev IsSmall : LimitPlace → Type 0
IsSmall p = (limit : ℕ) → p.limit ≡ Some limit → limit < 65536

limit_small : (text : List ℕ) (found : Option ℕ) → limit_of text ≡ Some found → (limit : ℕ) → found ≡ Some limit
    → limit < 65536
limit_small text found e limit is = by (length text == 0) e
  where
    by : (none : Bool) → cond none (Some None) (option_map Some (decimal_of 65535 text)) ≡ Some found → limit < 65536
    by true e = no_value limit (same_value None found e ∙ is)
    by false e =
        let gave = map_gave (decimal_of 65535 text) Some found e in
        let within = decimal_small 65535 limit text (gave.1 ∙ gave.2 ∙ is) in omega arith

place_small : (css : ℕ) (v : Value) (p : LimitPlace) → limit_item css v ≡ Some p → IsSmall p
place_small css v p e =
    let gave = step_gave (word_text v >>= limit_of) (λ l. Some (record { css = css; limit = l })) p e in
    let text = step_gave (word_text v) limit_of gave.0 gave.1 in
    subst IsSmall (same_value (record { css = css; limit = gave.0 }) p gave.2) (limit_small text.0 gave.0 text.2)

-- ---- the limits of a channel subsystem

record IsLimitOf (css : ℕ) (l : LimitRecord) : Type 0 where
  pub here : l.css ≡ css
  pub set : l.set < 4
  pub limit : l.limit < 65536

-- limits of a channel subsystem, with sets that ascend from this one on
abbrev AreOf : ℕ → ℕ → List LimitRecord → Type 0
AreOf css from ls = Ascend from ls × All (IsLimitOf css) ls

from_earlier : (a b : ℕ) (ls : List LimitRecord) → a ≤ b → Ascend b ls → Ascend a ls
from_earlier a b [] earlier ascend = tt
from_earlier a b (l ∷ ls) earlier ascend = let later = ascend.0 in (omega arith, ascend.1)

record IsPlaceOf (css : ℕ) (p : LimitPlace) : Type 0 where
  pub here : p.css ≡ css
  pub small : IsSmall p

places_of : (css : ℕ) (places : List LimitPlace) → All IsSmall places
    → All (IsPlaceOf css) (filter (λ (p : LimitPlace). p.css == css) places)
places_of css [] small = All-nil (IsPlaceOf css)
places_of css (p ∷ places) small = by (p.css == css) refl (places_of css places (All-tail IsSmall p places small))
  where
    by : (here : Bool) → p.css == css ≡ here → All (IsPlaceOf css) (filter (λ (q : LimitPlace). q.css == css) places)
        → All (IsPlaceOf css) (filter (λ (q : LimitPlace). q.css == css) (p ∷ places))
    by true here others =
        rw here (All-cons (IsPlaceOf css) p (filter (λ (q : LimitPlace). q.css == css) places)
        (record { here = eqb-true p.css css here; small = All-head IsSmall p places small }) others)
    by false here others = rw here others

one_place : (css from : ℕ) (p : LimitPlace) (found : Option ℕ) (ls : List LimitRecord) → from < 4 → p.limit ≡ found
    → IsPlaceOf css p → AreOf css (from + 1) ls
    → AreOf css from (filter_map (λ o. o) (option_map (λ l. record { css = p.css; set = from; limit = l }) found ∷ [])
    ++ ls)
one_place css from p None ls small is place rest = (from_earlier from (from + 1) ls (omega arith) rest.0, rest.1)
one_place css from p (Some limit) ls small is place rest = (
  (omega arith, subst (λ k. Ascend k ls) (add-one from) rest.0),
  All-cons (IsLimitOf css) (record { css = p.css; set = from; limit = limit }) ls
      (record { here = place.here; set = small; limit = place.small limit is }) rest.1,
)

kept_first : (o : Option LimitRecord) (os : List (Option LimitRecord))
    → filter_map (λ n. n) (o ∷ []) ++ filter_map (λ n. n) os ≡ filter_map (λ n. n) (o ∷ os)
kept_first None os = refl
kept_first (Some l) os = refl

places_are : (css : ℕ) (ps : List LimitPlace) (from : ℕ) (os : List (Option LimitRecord)) → All (IsPlaceOf css) ps
    → every_at limit_at from ps ≡ Some os
    → AreOf css from (filter_map (λ o. o) os)
unfolding every_at
places_are css [] from os are e =
    subst (λ xs. AreOf css from (filter_map (λ o. o) xs)) (same_value [] os e) (tt, All-nil (IsLimitOf css))
places_are css (p ∷ ps) from os are e =
    let first = step_gave (limit_at from p) (λ y. every_at limit_at (from + 1) ps >>= λ ys. Some (y ∷ ys)) os e in
    let rest = step_gave (every_at limit_at (from + 1) ps) (λ ys. Some (first.0 ∷ ys)) os first.2 in
    let there = test_gave (nat_lt from 4)
    (Some (option_map (λ l. record { css = p.css; set = from; limit = l }) p.limit)) first.0 first.1 in
    let others = places_are css ps (from + 1) rest.0 (All-tail (IsPlaceOf css) p ps are) rest.1 in
    let o : Option LimitRecord = option_map (λ l. record { css = p.css; set = from; limit = l }) p.limit in
    let one = one_place css from p p.limit (filter_map (λ n. n) rest.0) (ltb-true from 4 there.0) refl
    (All-head (IsPlaceOf css) p ps are) others in
    let same : o ∷ rest.0 ≡ os =
    ap (λ n. n ∷ rest.0) (same_value o first.0 there.1) ∙ same_value (first.0 ∷ rest.0) os rest.2 in
    subst (AreOf css from) (kept_first o rest.0 ∙ ap (filter_map (λ n. n)) same) one

css_are : (places : List LimitPlace) → All IsSmall places → (css : ℕ)
    → AreOf css 0 (unwrap_or (limits_in places css) [])
css_are places small css = by (limits_in places css) refl
  where
    by : (found : Option (List LimitRecord)) → limits_in places css ≡ found → AreOf css 0 (unwrap_or found [])
    by None e = (tt, All-nil (IsLimitOf css))
    by (Some ls) e =
        let part = filter (λ (p : LimitPlace). p.css == css) places in
        let gave = map_gave (every_at limit_at 0 part) (filter_map (λ o. o)) ls e in
        subst (AreOf css 0) gave.2 (places_are css part 0 gave.0 (places_of css places small) gave.1)

-- ---- all limits

parts_gave : (read : ℕ → Option (List LimitRecord)) (all : List ℕ) (ls : List LimitRecord) → gathered read all ≡ Some ls
    → flat_map (λ css. unwrap_or (read css) []) all ≡ ls
unfolding gathered
parts_gave read [] ls e = same_value [] ls e
parts_gave read (css ∷ all) ls e =
    let first = step_gave (read css) (λ front. gathered read all >>= λ rest. Some (front ++ rest)) ls e in
    let rest = step_gave (gathered read all) (λ others. Some (first.0 ++ others)) ls first.2 in
    (λ i. unwrap_or (first.1 i) [] ++ parts_gave read all rest.0 rest.1 i) ∙ same_value (first.0 ++ rest.0) ls rest.2

part_alone : (css from : ℕ) (ls : List LimitRecord) (b : Bool) → All (IsLimitOf from) ls → from == css ≡ b
    → filter (λ (l : LimitRecord). l.css == css) ls ≡ cond b ls []
part_alone css from [] true are e = refl
part_alone css from [] false are e = refl
part_alone css from (l ∷ ls) true are e =
    let here : l.css == css ≡ true = ap (λ n. n == css) (All-head (IsLimitOf from) l ls are).here ∙ e in
    rw here (ap (λ rest. l ∷ rest) (part_alone css from ls true (All-tail (IsLimitOf from) l ls are) e))
part_alone css from (l ∷ ls) false are e =
    let other : l.css == css ≡ false = ap (λ n. n == css) (All-head (IsLimitOf from) l ls are).here ∙ e in
    rw other (part_alone css from ls false (All-tail (IsLimitOf from) l ls are) e)

less_is : (a b : ℕ) → a < b → nat_cmp a b ≡ Less
less_is a b less = ap (λ t. cond t Less (cond (a == b) Equal Greater)) (lt-ltb a b less)

all_behind : (a : ℕ) (ls : List LimitRecord) → Ascend (suc a) ls
    → AllByRecursion (λ b. nat_cmp a b ≡ Less) (map (λ (l : LimitRecord). l.set) ls)
all_behind a [] ascend = tt
all_behind a (l ∷ ls) ascend =
    let first = ascend.0 in
    (less_is a l.set (omega arith), all_behind a ls (from_earlier (suc a) (suc l.set) ls (omega arith) ascend.1))

ascend_sorted : (from : ℕ) (ls : List LimitRecord) → Ascend from ls
    → IsStrictlySortedBy nat_cmp (map (λ (l : LimitRecord). l.set) ls)
unfolding IsStrictlySortedBy
ascend_sorted from [] ascend = tt
ascend_sorted from (l ∷ ls) ascend = (all_behind l.set ls ascend.1, ascend_sorted (suc l.set) ls ascend.1)

increasing : (ls : List LimitRecord) → Ascend 0 ls → IsStrictlyIncreasing (map (λ (l : LimitRecord). l.set) ls)
increasing ls ascend = IsStrictlyIncreasing-from_sorted (map (λ (l : LimitRecord). l.set) ls)
    (ascend_sorted 0 ls ascend)

module _ (part : ℕ → List LimitRecord) (are : (css : ℕ) → AreOf css 0 (part css)) where
  abbrev of_css : ℕ → List LimitRecord → List LimitRecord
  of_css css ls = filter (λ (l : LimitRecord). l.css == css) ls

  parts_filtered : (css : ℕ) (all : List ℕ)
      → of_css css (flat_map part all) ≡ flat_map (λ from. cond (from == css) (part from) []) all
  parts_filtered css [] = refl
  parts_filtered css (from ∷ all) =
      filter_both (λ (l : LimitRecord). l.css) (λ (l : LimitRecord). l.css == css) (part from) (flat_map part all)
      ∙ (λ i. part_alone css from (part from) (from == css) (are from).1 refl i ++ parts_filtered css all i)

  one_part : (css : ℕ) → css < 6 → flat_map (λ from. cond (from == css) (part from) []) all_css ≡ part css
  one_part zero small = append-nil (part 0)
  one_part (suc zero) small = append-nil (part 1)
  one_part (suc (suc zero)) small = append-nil (part 2)
  one_part (suc (suc (suc zero))) small = append-nil (part 3)
  one_part (suc (suc (suc (suc zero)))) small = append-nil (part 4)
  one_part (suc (suc (suc (suc (suc zero))))) small = append-nil (part 5)
  one_part (suc (suc (suc (suc (suc (suc n)))))) small = absurd (omega arith)

  part_in : (css : ℕ) → css < 6 → of_css css (flat_map part all_css) ≡ part css
  part_in css small = parts_filtered css all_css ∙ one_part css small

  parts_in_order : in_css_order (λ (l : LimitRecord). l.css) (flat_map part all_css) ≡ flat_map part all_css
  parts_in_order = λ i. part_in 0 (omega arith) i ++ (part_in 1 (omega arith) i ++ (part_in 2 (omega arith) i
      ++ (part_in 3 (omega arith) i ++ (part_in 4 (omega arith) i ++ (part_in 5 (omega arith) i ++ [])))))

  each_is : (css : ℕ) (ls : List LimitRecord) → css < 6 → All (IsLimitOf css) ls → All IsLimit ls
  each_is css [] small all = All-nil IsLimit
  each_is css (l ∷ ls) small all =
      let first : IsLimitOf css l = All-head (IsLimitOf css) l ls all in
      let at : l.css ≡ css = first.here in
      All-cons IsLimit l ls (record { css = omega (arith, at, small); set = first.set; limit = first.limit })
      (each_is css ls small (All-tail (IsLimitOf css) l ls all))

  parts_are : (all : List ℕ) → AreCss all → All IsLimit (flat_map part all)
  parts_are [] small = All-nil IsLimit
  parts_are (css ∷ all) small =
      All-append IsLimit (part css) (flat_map part all) (each_is css (part css) small.0 (are css).1)
      (parts_are all small.1)

  limits_are : flat_map part all_css ≢ [] → AreLimits (flat_map part all_css)
  limits_are some = record {
    by_css = record { some = some; each = parts_are all_css all_small; ascending = parts_in_order };
    sets = λ css small. subst (λ ls. IsStrictlyIncreasing (map (λ (l : LimitRecord). l.set) ls))
        (sym (part_in css small)) (increasing (part css) (are css).0);
  }

pub limits_given : GivesLimits
limits_given v limits e some =
    let gave = step_gave (by_css true limit_item (λ (p : LimitPlace). p.css) v)
    (λ places. gathered (limits_in places) all_css) limits e in
    let small : All IsSmall gave.0 =
    by_css_all IsSmall true limit_item place_small (λ (p : LimitPlace). p.css) v gave.0 gave.1 in
    let part : ℕ → List LimitRecord = λ css. unwrap_or (limits_in gave.0 css) [] in
    let same : flat_map part all_css ≡ limits = parts_gave (limits_in gave.0) all_css limits gave.2 in
    subst AreLimits same (limits_are part (css_are gave.0 small) (λ none. some (sym same ∙ none)))
