-- Limits that are written are read again: each place of a channel subsystem has the limit of its
-- set, or is empty.
use Rattle.std.proofs.Common.{◌≡◌, ◌≢◌, ℕ, zero, suc, ◌+◌, ◌<◌, ◌≤◌, ◌==◌, max, Bool, true, false, cond, Option, Some}
use Rattle.std.proofs.Common.{None, List, [], ◌∷◌, ◌++◌, map, filter, fold, All, refl, sym, ap, ◌∙◌, subst, arith}
use Rattle.std.proofs.Common.{append-nil, eqb-true, eq-eqb, ne_eqb, lt-ltb}
use Rattle.std.proofs.lemmas.Bool.{and_parts, false≢true}
use Rattle.std.proofs.lemmas.Cmp.{ranked}
use Rattle.std.proofs.lemmas.List.Elements.{All-head, All-tail, All-filter}
use Rattle.std.proofs.lemmas.Map.Keys.{sorted_from_strictly_increasing, sorted_head, sorted_tail}
use Rattle.std.specs.Fmt.{decimal}
use Rattle.std.specs.List.{find, filter_map, flat_map, list_all, range_with_len}
use Rattle.std.specs.List.Sorted.{IsStrictlySortedBy}
use Rattle.std.specs.Option.{option_map, option_map_or}
use Rattle.std.specs.Ordering.{nat_cmp}
use Rattle.std.specs.declared.cmp.Ordering.TheVariants.{Less}
use Rattle.iocm_model.specs.Machine.Record.{LimitRecord}
use Rattle.iocm_operands.specs.declared.limits.LimitPlace.{LimitPlace}
use Rattle.iocm_operands.specs.Again.{IsLimit, AreLimits, ReadsLimitsAgain}
use Rattle.iocm_operands.specs.Limits.{limit_of, limit_item, limit_at, limits_in, is_limit_at, place_text, count_places}
use Rattle.iocm_operands.specs.Limits.{places_in}
use Rattle.iocm_values.specs.declared.texts.CssText.{CssText}
use Rattle.iocm_values.specs.CssLists.{in_css_order}
use Rattle.iocm_values.specs.Digits.{decimal_of}
use Rattle.iocm_values.specs.Reading.{◌>>=◌, every, every_at, gathered}
use Rattle.iocm_values.specs.Texts.{texts_in}
use Rattle.iocm_values.specs.Value.{value}
use Rattle.iocm_values.proofs.Levels.{plain_again}
use Rattle.iocm_values.proofs.Numerals.{decimal_is, decimal_again}
use Rattle.iocm_values.proofs.Pieces.{AllWhole, is_plain, whole_plain}
use Rattle.iocm_operands.proofs.Grouped.{all_css, AreCss, all_small, AreReadByCss, parts_again}

-- ---- what each channel subsystem has, end to end

module _ {A : Type 0} (css_of : A → ℕ) (make : ℕ → ℕ → A) (is : (css n : ℕ) → css_of (make css n) ≡ css) where
  made_alone : (css from : ℕ) (ns : List ℕ) (b : Bool) → from == css ≡ b
      → filter (λ a. css_of a == css) (map (make from) ns) ≡ cond b (map (make from) ns) []
  made_alone css from [] true e = refl
  made_alone css from [] false e = refl
  made_alone css from (n ∷ ns) true e =
      rw (is from n, e) (ap (λ rest. make from n ∷ rest) (made_alone css from ns true e))
  made_alone css from (n ∷ ns) false e = rw (is from n, e) (made_alone css from ns false e)

  filter_both : (p : A → Bool) (xs ys : List A) → filter p (xs ++ ys) ≡ filter p xs ++ filter p ys
  filter_both p [] ys = refl
  filter_both p (x ∷ xs) ys = by (p x) refl (filter_both p xs ys)
    where
      by : (b : Bool) → p x ≡ b → filter p (xs ++ ys) ≡ filter p xs ++ filter p ys
          → filter p ((x ∷ xs) ++ ys) ≡ filter p (x ∷ xs) ++ filter p ys
      by true here others = rw here (ap (λ rest. x ∷ rest) others)
      by false here others = rw here others

  all_filtered : (ns : ℕ → List ℕ) (css : ℕ) (all : List ℕ)
      → filter (λ a. css_of a == css) (flat_map (λ from. map (make from) (ns from)) all)
      ≡ flat_map (λ from. cond (from == css) (map (make from) (ns from)) []) all
  all_filtered ns css [] = refl
  all_filtered ns css (from ∷ all) =
      filter_both (λ a. css_of a == css) (map (make from) (ns from)) (flat_map (λ n. map (make n) (ns n)) all)
      ∙ (λ i. made_alone css from (ns from) (from == css) refl i ++ all_filtered ns css all i)

  one_alone : (ns : ℕ → List ℕ) (css : ℕ) → css < 6
      → flat_map (λ from. cond (from == css) (map (make from) (ns from)) []) all_css ≡ map (make css) (ns css)
  one_alone ns zero small = append-nil (map (make 0) (ns 0))
  one_alone ns (suc zero) small = append-nil (map (make 1) (ns 1))
  one_alone ns (suc (suc zero)) small = append-nil (map (make 2) (ns 2))
  one_alone ns (suc (suc (suc zero))) small = append-nil (map (make 3) (ns 3))
  one_alone ns (suc (suc (suc (suc zero)))) small = append-nil (map (make 4) (ns 4))
  one_alone ns (suc (suc (suc (suc (suc zero))))) small = append-nil (map (make 5) (ns 5))
  one_alone ns (suc (suc (suc (suc (suc (suc n)))))) small = absurd (omega arith)

  made_in : (ns : ℕ → List ℕ) (css : ℕ) → css < 6
      → filter (λ a. css_of a == css) (flat_map (λ from. map (make from) (ns from)) all_css) ≡ map (make css) (ns css)
  made_in ns css small = all_filtered ns css all_css ∙ one_alone ns css small

  made_in_order : (ns : ℕ → List ℕ)
      → in_css_order css_of (flat_map (λ from. map (make from) (ns from)) all_css)
      ≡ flat_map (λ from. map (make from) (ns from)) all_css
  made_in_order ns = λ i. made_in ns 0 (omega arith) i ++ (made_in ns 1 (omega arith) i ++ (made_in ns 2 (omega arith) i
      ++ (made_in ns 3 (omega arith) i ++ (made_in ns 4 (omega arith) i ++ (made_in ns 5 (omega arith) i ++ [])))))

-- ---- sets that ascend

-- the sets of these limits ascend, from this one on
abbrev pub Ascend : ℕ → List LimitRecord → Type 0
Ascend from [] = Unit {0}
Ascend from (l ∷ ls) = (from ≤ l.set) × Ascend (suc l.set) ls

-- each is below
abbrev Below : ℕ → List LimitRecord → Type 0
Below end [] = Unit {0}
Below end (l ∷ ls) = (l.set < end) × Below end ls

abbrev limit_in : List LimitRecord → ℕ → Option LimitRecord
limit_in ls set = find (λ (l : LimitRecord). l.set == set) ls

sets_ascend : (l : LimitRecord) (ls : List LimitRecord)
    → IsStrictlySortedBy nat_cmp (map (λ (m : LimitRecord). m.set) (l ∷ ls)) → Ascend (suc l.set) ls
sets_ascend l [] sorted = tt
sets_ascend l (m ∷ ls) sorted =
    let less : nat_cmp l.set m.set ≡ Less =
    (sorted_head nat_cmp l.set (map (λ (k : LimitRecord). k.set) (m ∷ ls)) sorted).0 in (
      ranked l.set m.set Less (sym less),
      sets_ascend m ls (sorted_tail nat_cmp l.set (map (λ (k : LimitRecord). k.set) (m ∷ ls)) sorted),
    )

all_ascend : (ls : List LimitRecord) → IsStrictlySortedBy nat_cmp (map (λ (m : LimitRecord). m.set) ls) → Ascend 0 ls
all_ascend [] sorted = tt
all_ascend (l ∷ ls) sorted = (omega arith, sets_ascend l ls sorted)

none_before : (ls : List LimitRecord) (from set : ℕ) → Ascend from ls → set < from → limit_in ls set ≡ None
none_before [] from set ascend before = refl
none_before (l ∷ ls) from set ascend before =
    let at_least = ascend.0 in
    let other : l.set == set ≡ false = ne_eqb l.set set (λ e. omega arith) in
    rw other (none_before ls (suc l.set) set ascend.1 (omega arith))

passed : (n from : ℕ) (l : LimitRecord) (ls : List LimitRecord) → l.set < from
    → map (limit_in (l ∷ ls)) (range_with_len from n) ≡ map (limit_in ls) (range_with_len from n)
passed zero from l ls before = refl
passed (suc n) from l ls before =
    let other : l.set == from ≡ false = ne_eqb l.set from (λ e. omega arith) in
    rw other (ap (λ rest. limit_in ls from ∷ rest) (passed n (from + 1) l ls (omega arith)))

nothing_found : (n from : ℕ) → filter_map (λ o. o) (map (limit_in []) (range_with_len from n)) ≡ []
nothing_found zero from = refl
nothing_found (suc n) from = nothing_found n (from + 1)

all_found : (n from end : ℕ) (ls : List LimitRecord) → from + n ≡ end → Ascend from ls → Below end ls
    → filter_map (λ o. o) (map (limit_in ls) (range_with_len from n)) ≡ ls
all_found n from end [] sum ascend below = nothing_found n from
all_found zero from end (l ∷ ls) sum ascend below = let a = ascend.0 in let b = below.0 in absurd (omega arith)
all_found (suc n) from end (l ∷ ls) sum ascend below =
    by (l.set == from) refl (all_found n (from + 1) end ls (omega arith))
    (all_found n (from + 1) end (l ∷ ls) (omega arith))
  where
    by : (b : Bool) → l.set == from ≡ b
        → (Ascend (from + 1) ls → Below end ls
        → filter_map (λ o. o) (map (limit_in ls) (range_with_len (from + 1) n)) ≡ ls)
        → (Ascend (from + 1) (l ∷ ls) → Below end (l ∷ ls)
        → filter_map (λ o. o) (map (limit_in (l ∷ ls)) (range_with_len (from + 1) n)) ≡ l ∷ ls)
        → filter_map (λ o. o) (map (limit_in (l ∷ ls)) (range_with_len from (suc n))) ≡ l ∷ ls
    by true here others again =
        let at : l.set ≡ from = eqb-true l.set from here in
        let next : suc l.set ≡ from + 1 = omega arith in
        rw here (ap (λ rest. l ∷ filter_map (λ o. o) rest) (passed n (from + 1) l ls (omega arith))
        ∙ ap (λ rest. l ∷ rest) (others (subst (λ k. Ascend k ls) next ascend.1) below.1))
    by false here others again =
        let at_least = ascend.0 in
        let apart : l.set ≢ from = λ e. false≢true (sym here ∙ eq-eqb l.set from e) in
        rw (here, none_before ls (suc l.set) from ascend.1 (omega arith)) (again (omega arith, ascend.1) below)

-- ---- what is found

found_passes : (p : LimitRecord → Bool) (ls : List LimitRecord) (l : LimitRecord) → find p ls ≡ Some l → p l ≡ true
found_passes p [] l is = absurd (no is)
  where
    no : None ≡ Some l → ⊥
    no e = cc
found_passes p (m ∷ ls) l is = by (p m) refl is (found_passes p ls l)
  where
    by : (b : Bool) → p m ≡ b → cond b (Some m) (find p ls) ≡ Some l → (find p ls ≡ Some l → p l ≡ true) → p l ≡ true
    by true here e others = let same : m ≡ l = cc in ap p (sym same) ∙ here
    by false here e others = others e

found_is : (P : LimitRecord → Type 0) (p : LimitRecord → Bool) (ls : List LimitRecord) (l : LimitRecord) → All P ls
    → find p ls ≡ Some l → P l
found_is P p [] l all is = absurd (no is)
  where
    no : None ≡ Some l → ⊥
    no e = cc
found_is P p (m ∷ ls) l all is = by (p m) is (λ e. found_is P p ls l (All-tail P m ls all) e)
  where
    by : (b : Bool) → cond b (Some m) (find p ls) ≡ Some l → (find p ls ≡ Some l → P l) → P l
    by true e others = let same : m ≡ l = cc in subst P same (All-head P m ls all)
    by false e others = others e

-- the limit of a set is found among those of the channel subsystem
abbrev of_css : ℕ → List LimitRecord → List LimitRecord
of_css css limits = filter (λ (l : LimitRecord). l.css == css) limits

found_of_css : (css set : ℕ) (limits : List LimitRecord)
    → find (is_limit_at css set) limits ≡ limit_in (of_css css limits) set
found_of_css css set [] = refl
found_of_css css set (l ∷ limits) = by (l.css == css) refl (found_of_css css set limits)
  where
    by : (b : Bool) → l.css == css ≡ b → find (is_limit_at css set) limits ≡ limit_in (of_css css limits) set
        → find (is_limit_at css set) (l ∷ limits) ≡ limit_in (of_css css (l ∷ limits)) set
    by true here others = rw here (ap (λ rest. cond (l.set == set) (Some l) rest) others)
    by false here others = rw here others

-- ---- how many places there are

abbrev last_of : ℕ → List LimitRecord → ℕ
last_of n ls = fold max n (map (λ (l : LimitRecord). suc l.set) ls)

last_grows : (ls : List LimitRecord) (n : ℕ) → n ≤ last_of n ls
last_grows [] n = omega arith
last_grows (l ∷ ls) n = let more = last_grows ls (max n (suc l.set)) in omega (arith, more)

all_below : (ls : List LimitRecord) (n : ℕ) → Below (last_of n ls) ls
all_below [] n = tt
all_below (l ∷ ls) n =
    let more = last_grows ls (max n (suc l.set)) in
    (omega (arith, more), all_below ls (max n (suc l.set)))

last_small : (ls : List LimitRecord) (n : ℕ) → n ≤ 4 → All IsLimit ls → last_of n ls ≤ 4
last_small [] n small are = small
last_small (l ∷ ls) n small are =
    let first : IsLimit l = All-head IsLimit l ls are in
    let set = first.set in
    last_small ls (max n (suc l.set)) (omega arith) (All-tail IsLimit l ls are)

limits_of_css : (css : ℕ) (limits : List LimitRecord) → All IsLimit limits → All IsLimit (of_css css limits)
limits_of_css css limits are = All-filter (λ (l : LimitRecord). l.css == css) IsLimit limits are

-- ---- a place

abbrev limit_there : List LimitRecord → ℕ → ℕ → Option ℕ
limit_there limits css set = option_map (λ (l : LimitRecord). l.limit) (find (is_limit_at css set) limits)

abbrev place_there : List LimitRecord → ℕ → ℕ → LimitPlace
place_there limits css set = record { css = css; limit = limit_there limits css set }

abbrev limit_text : Option LimitRecord → List ℕ
limit_text found = option_map_or (λ (l : LimitRecord). decimal l.limit) found []

text_plain : (found : Option LimitRecord) → ((l : LimitRecord) → found ≡ Some l → l.limit < 65536)
    → list_all is_plain (limit_text found) ≡ true
text_plain None small = refl
text_plain (Some l) small =
    let fits : l.limit < 65536 = small l refl in
    let is = decimal_is l.limit (omega arith) in is.plain

text_read : (found : Option LimitRecord) → ((l : LimitRecord) → found ≡ Some l → l.limit < 65536)
    → limit_of (limit_text found) ≡ Some (option_map (λ (l : LimitRecord). l.limit) found)
text_read None small = refl
text_read (Some l) small =
    let fits : l.limit < 65536 = small l refl in
    let is = decimal_is l.limit (omega arith) in
    ap (λ b. cond b (Some None) (option_map Some (decimal_of 65535 (decimal l.limit)))) is.some
    ∙ ap (option_map Some) (decimal_again 65535 l.limit (omega arith) (omega arith))

place_again : (css : ℕ) (found : Option LimitRecord) → ((l : LimitRecord) → found ≡ Some l → l.limit < 65536)
    → limit_item css (value (limit_text found))
    ≡ Some (record { css = css; limit = option_map (λ (l : LimitRecord). l.limit) found })
place_again css found small =
    ap (limit_item css) (plain_again (limit_text found) (text_plain found small))
    ∙ ap (λ read. read >>= λ l. Some (record { css = css; limit = l })) (text_read found small)

found_small : (limits : List LimitRecord) → All IsLimit limits → (css set : ℕ) (l : LimitRecord)
    → find (is_limit_at css set) limits ≡ Some l → l.limit < 65536
found_small limits are css set l is = (found_is IsLimit (is_limit_at css set) limits l are is).limit

abbrev texts_there : List LimitRecord → ℕ → List ℕ → List (List ℕ)
texts_there limits css ns = map (λ (i : CssText). i.text) (map (place_text limits css) ns)

texts_whole : (limits : List LimitRecord) → All IsLimit limits → (css : ℕ) (ns : List ℕ)
    → AllWhole (texts_there limits css ns)
texts_whole limits are css [] = tt
texts_whole limits are css (set ∷ ns) =
    let found = find (is_limit_at css set) limits in
    (whole_plain (limit_text found) (text_plain found (found_small limits are css set)), texts_whole limits are css ns)

texts_read : (limits : List LimitRecord) → All IsLimit limits → (css : ℕ) (ns : List ℕ)
    → every (limit_item css) (map value (texts_there limits css ns)) ≡ Some (map (place_there limits css) ns)
unfolding every
texts_read limits are css [] = refl
texts_read limits are css (set ∷ ns) =
    rw (
      place_again css (find (is_limit_at css set) limits) (found_small limits are css set),
      texts_read limits are css ns,
    ) refl

-- ---- all places

abbrev sets_in : List LimitRecord → ℕ → List ℕ
sets_in limits css = range_with_len 0 (count_places limits css)

abbrev all_texts : List LimitRecord → List CssText
all_texts limits = flat_map (places_in limits) all_css

abbrev places_there : List LimitRecord → ℕ → List LimitPlace
places_there limits css = map (place_there limits css) (sets_in limits css)

abbrev all_places : List LimitRecord → List LimitPlace
all_places limits = flat_map (places_there limits) all_css

texts_alone : (limits : List LimitRecord) (css : ℕ) → css < 6
    → texts_in (all_texts limits) css ≡ texts_there limits css (sets_in limits css)
texts_alone limits css small =
    ap (map (λ (i : CssText). i.text))
    (made_in (λ (i : CssText). i.css) (place_text limits) (λ _ _. refl) (sets_in limits) css small)

places_read : (limits : List LimitRecord) → All IsLimit limits
    → AreReadByCss limit_item (all_texts limits) (places_there limits)
places_read limits are = record {
  whole = λ css small. subst AllWhole (sym (texts_alone limits css small))
      (texts_whole limits are css (sets_in limits css));
  each = λ css small. ap (λ ts. every (limit_item css) (map value ts)) (texts_alone limits css small)
      ∙ texts_read limits are css (sets_in limits css);
}

-- ---- the limits at their places

limit_back : (limits : List LimitRecord) (css set : ℕ) (found : Option LimitRecord)
    → find (is_limit_at css set) limits ≡ found
    → option_map (λ l. record { css = css; set = set; limit = l }) (option_map (λ (l : LimitRecord). l.limit) found)
    ≡ found
limit_back limits css set None is = refl
limit_back limits css set (Some l) is =
    let parts = and_parts (l.css == css) (l.set == set) (found_passes (is_limit_at css set) limits l is) in
    let css_is : css ≡ l.css = sym (eqb-true l.css css parts.0) in
    let set_is : set ≡ l.set = sym (eqb-true l.set set parts.1) in
    λ i. Some (record { css = css_is i; set = set_is i; limit = l.limit })

limit_at_again : (limits : List LimitRecord) (css set : ℕ) → set < 4
    → limit_at set (place_there limits css set) ≡ Some (limit_in (of_css css limits) set)
limit_at_again limits css set small =
    ap (λ b. cond b (Some (option_map (λ l. record { css = css; set = set; limit = l }) (limit_there limits css set)))
    None) (lt-ltb set 4 small)
    ∙ ap Some (limit_back limits css set (find (is_limit_at css set) limits) refl ∙ found_of_css css set limits)

limits_at_again : (limits : List LimitRecord) (css n from : ℕ) → from + n ≤ 4
    → every_at limit_at from (map (place_there limits css) (range_with_len from n))
    ≡ Some (map (limit_in (of_css css limits)) (range_with_len from n))
unfolding every_at
limits_at_again limits css zero from small = refl
limits_at_again limits css (suc n) from small =
    rw (limit_at_again limits css from (omega arith), limits_at_again limits css n (from + 1) (omega arith)) refl

css_again : (limits : List LimitRecord) → AreLimits limits → (css : ℕ) → css < 6
    → limits_in (all_places limits) css ≡ Some (of_css css limits)
css_again limits are css small =
    let these : All IsLimit (of_css css limits) = limits_of_css css limits are.by_css.each in
    let few : count_places limits css ≤ 4 = last_small (of_css css limits) 0 (omega arith) these in
    let sorted = sorted_from_strictly_increasing (map (λ (l : LimitRecord). l.set) (of_css css limits))
    (are.sets css small) in
    ap (λ places. option_map (filter_map (λ o. o)) (every_at limit_at 0 places))
    (made_in (λ (p : LimitPlace). p.css) (place_there limits) (λ _ _. refl) (sets_in limits) css small)
    ∙ ap (option_map (filter_map (λ o. o)))
    (limits_at_again limits css (count_places limits css) 0 (omega (arith, few)))
    ∙ ap Some (all_found (count_places limits css) 0 (count_places limits css) (of_css css limits) (omega arith)
    (all_ascend (of_css css limits) sorted) (all_below (of_css css limits) 0))

gathered_again : (limits : List LimitRecord) → AreLimits limits → (all : List ℕ) → AreCss all
    → gathered (limits_in (all_places limits)) all ≡ Some (flat_map (λ css. of_css css limits) all)
unfolding gathered
gathered_again limits are [] small = refl
gathered_again limits are (css ∷ all) small =
    rw (css_again limits are css small.0, gathered_again limits are all small.1) refl

all_again : (limits : List LimitRecord) → AreLimits limits
    → gathered (limits_in (all_places limits)) all_css ≡ Some limits
all_again limits are =
    gathered_again limits are all_css all_small
    ∙ ap Some are.by_css.ascending

nothing_gathered : gathered (limits_in []) all_css ≡ Some []
unfolding gathered every_at
nothing_gathered = refl

some_places : (limits : List LimitRecord) → AreLimits limits → all_places limits ≢ []
some_places limits are none =
    let same : Some [] ≡ Some limits =
    sym nothing_gathered ∙ ap (λ places. gathered (limits_in places) all_css) (sym none) ∙ all_again limits are in
    are.by_css.some (cc)

pub limits_again : ReadsLimitsAgain
limits_again limits are =
    ap (λ found. found >>= λ places. gathered (limits_in places) all_css)
    (parts_again true limit_item (λ (p : LimitPlace). p.css) (all_texts limits) (places_there limits)
    (places_read limits are.by_css.each) (some_places limits are)
    ∙ ap Some (made_in_order (λ (p : LimitPlace). p.css) (place_there limits) (λ _ _. refl) (sets_in limits)))
    ∙ all_again limits are
