-- Lists by channel subsystem that are written are read again.
use Rattle.std.proofs.Common.{◌≡◌, ◌≢◌, ℕ, ◌<◌, ◌==◌, not, Bool, true, false, cond, Option, Some, None, List, [], ◌∷◌}
use Rattle.std.proofs.Common.{◌++◌, All, ◌⊎◌, inl, inr, map, filter, length, refl, sym, ap, ◌∙◌, subst, arith, eqb-true}
use Rattle.std.proofs.Common.{⊎_elim}
use Rattle.std.proofs.Math.Dec.{eqb-suc-zero}
use Rattle.std.proofs.lemmas.List.Elements.{All-head, All-tail}
use Rattle.std.specs.List.{flat_map, join_with_byte, list_any}
use Rattle.std.specs.Option.{option_map_or}
use Rattle.iocm_values.specs.declared.texts.CssText.{CssText}
use Rattle.iocm_values.specs.CssLists.{begins_with_css, is_group, css_number, group, group_of, has_items, by_css_items}
use Rattle.iocm_values.specs.CssLists.{in_css_order, by_css}
use Rattle.iocm_values.specs.Reading.{◌>>=◌, every, gathered}
use Rattle.iocm_values.specs.Texts.{css_text, list_text, texts_in, group_texts, by_css_text}
use Rattle.iocm_values.specs.Value.{Value, list, value, values, items}
use Rattle.iocm_values.proofs.Levels.{list_again, values_again, items_again, whole_css, whole_items, css_again, css_is}
use Rattle.iocm_values.proofs.Pieces.{IsWhole, AllWhole}

-- the channel subsystems
abbrev pub all_css : List ℕ
all_css = 0 ∷ 1 ∷ 2 ∷ 3 ∷ 4 ∷ 5 ∷ []

-- each of these is a channel subsystem
abbrev pub AreCss : List ℕ → Type 0
AreCss [] = Unit {0}
AreCss (css ∷ all) = (css < 6) × AreCss all

pub all_small : AreCss all_css
all_small = (omega arith, (omega arith, (omega arith, (omega arith, (omega arith, (omega arith, tt))))))

-- the texts of each channel subsystem are whole, and are read as what it has
pub record AreReadByCss {A : Type 0} (read : ℕ → Value → Option A) (texts : List CssText) (part : ℕ → List A) : Type
    0 where
  pub whole : (css : ℕ) → css < 6 → AllWhole (texts_in texts css)
  pub each : (css : ℕ) → css < 6 → every (read css) (map value (texts_in texts css)) ≡ Some (part css)

-- ---- one group

abbrev one_group : ℕ → List (List ℕ) → List (List ℕ)
one_group css ts = cond (length ts == 0) [] (list_text (css_text css ∷ ts) ∷ [])

has_some : (may_lack : Bool) (v : Value) (vs : List Value) → has_items may_lack (v ∷ vs) ≡ true
has_some true v vs = refl
has_some false v vs = ap not (eqb-suc-zero (length vs))

group_again : {A : Type 0} (may_lack : Bool) (read : ℕ → Value → Option A) (css : ℕ) (t : List ℕ) (ts : List (List ℕ))
    (ys : List A) → css < 6
    → AllWhole (t ∷ ts) → every (read css) (map value (t ∷ ts)) ≡ Some ys
    → group_of may_lack read (value (list_text (css_text css ∷ t ∷ ts))) ≡ Some ys
group_again may_lack read css t ts ys small whole is =
    ap (λ found. found >>= group may_lack read)
    (items_again (css_text css) (t ∷ ts) (whole_css css (omega arith), whole))
    ∙ ap (λ b. cond b (css_number (css_text css) >>= λ n. every (read n) (map value (t ∷ ts))) None)
    (has_some may_lack (value t) (map value ts))
    ∙ ap (λ found. found >>= λ n. every (read n) (map value (t ∷ ts))) (css_again css small) ∙ is

none_left : {A : Type 0} (ys : List A) → Some [] ≡ Some ys → [] ≡ ys
none_left ys e = cc

every_nothing : {A : Type 0} (read : Value → Option A) (ys : List A) → every read [] ≡ Some ys → [] ≡ ys
unfolding every
every_nothing read ys e = none_left ys e

gathered_one : {A : Type 0} (read : Value → Option (List A)) (v : Value) (vs : List Value) (ys zs : List A)
    → read v ≡ Some ys → gathered read vs ≡ Some zs
    → gathered read (v ∷ vs) ≡ Some (ys ++ zs)
unfolding gathered
gathered_one read v vs ys zs first rest = rw (first, rest) refl

gathered_none : {A : Type 0} (read : Value → Option (List A)) → gathered read [] ≡ Some []
unfolding gathered
gathered_none read = refl

group_gathered : {A : Type 0} (may_lack : Bool) (read : ℕ → Value → Option A) (css : ℕ) (ts : List (List ℕ))
    (ys zs : List A) (rest : List (List ℕ)) → css < 6
    → AllWhole ts → every (read css) (map value ts) ≡ Some ys
    → gathered (group_of may_lack read) (map value rest) ≡ Some zs
    → gathered (group_of may_lack read) (map value (one_group css ts ++ rest)) ≡ Some (ys ++ zs)
group_gathered may_lack read css [] ys zs rest small whole is more =
    more ∙ ap (λ front. Some (front ++ zs)) (every_nothing (read css) ys is)
group_gathered may_lack read css (t ∷ ts) ys zs rest small whole is more =
    ap (λ b. gathered (group_of may_lack read) (map value (cond b [] (list_text (css_text css ∷ t ∷ ts) ∷ []) ++ rest)))
    (eqb-suc-zero (length ts))
    ∙ gathered_one (group_of may_lack read) (value (list_text (css_text css ∷ t ∷ ts))) (map value rest) ys zs
    (group_again may_lack read css t ts ys small whole is) more

-- ---- all groups

groups_gathered : {A : Type 0} (may_lack : Bool) (read : ℕ → Value → Option A) (texts : List CssText)
    (part : ℕ → List A) → AreReadByCss read texts part
    → (all : List ℕ) → AreCss all
    → gathered (group_of may_lack read) (map value (flat_map (group_texts texts) all)) ≡ Some (flat_map part all)
groups_gathered may_lack read texts part at [] small = gathered_none (group_of may_lack read)
groups_gathered may_lack read texts part at (css ∷ all) small =
    group_gathered may_lack read css (texts_in texts css) (part css) (flat_map part all)
    (flat_map (group_texts texts) all) small.0
    (at.whole css small.0) (at.each css small.0) (groups_gathered may_lack read texts part at all small.1)

group_whole : (css : ℕ) (ts rest : List (List ℕ)) → css < 6 → AllWhole ts → AllWhole rest
    → AllWhole (one_group css ts ++ rest)
group_whole css [] rest small whole more = more
group_whole css (t ∷ ts) rest small whole more =
    subst (λ b. AllWhole (cond b [] (list_text (css_text css ∷ t ∷ ts) ∷ []) ++ rest)) (sym (eqb-suc-zero (length ts)))
    (whole_items (css_text css ∷ t ∷ ts) (whole_css css (omega arith), whole), more)

groups_whole : {A : Type 0} (read : ℕ → Value → Option A) (texts : List CssText) (part : ℕ → List A)
    → AreReadByCss read texts part
    → (all : List ℕ) → AreCss all → AllWhole (flat_map (group_texts texts) all)
groups_whole read texts part at [] small = tt
groups_whole read texts part at (css ∷ all) small =
    group_whole css (texts_in texts css) (flat_map (group_texts texts) all) small.0 (at.whole css small.0)
    (groups_whole read texts part at all small.1)

-- the first text is that of a group
record BeginsWithGroup (groups : List (List ℕ)) : Type 0 where
  pub css : ℕ
  pub ts : List (List ℕ)
  pub rest : List (List ℕ)
  pub is : groups ≡ list_text (css_text css ∷ ts) ∷ rest
  pub whole : AllWhole (css_text css ∷ ts)

group_first : {A : Type 0} (read : Value → Option A) (css : ℕ) (ts rest : List (List ℕ)) (ys zs : List A) → css < 6
    → AllWhole ts
    → every read (map value ts) ≡ Some ys → (zs ≡ []) ⊎ BeginsWithGroup rest
    → (ys ++ zs ≡ []) ⊎ BeginsWithGroup (one_group css ts ++ rest)
group_first read css [] rest ys zs small whole is (inl none) =
    inl (ap (λ front. front ++ zs) (sym (every_nothing read ys is)) ∙ none)
group_first read css [] rest ys zs small whole is (inr first) = inr first
group_first read css (t ∷ ts) rest ys zs small whole is more = inr (record {
  css = css;
  ts = t ∷ ts;
  rest = rest;
  is = ap (λ b. cond b [] (list_text (css_text css ∷ t ∷ ts) ∷ []) ++ rest) (eqb-suc-zero (length ts));
  whole = (whole_css css (omega arith), whole);
})

groups_first : {A : Type 0} (read : ℕ → Value → Option A) (texts : List CssText) (part : ℕ → List A)
    → AreReadByCss read texts part
    → (all : List ℕ) → AreCss all → (flat_map part all ≡ []) ⊎ BeginsWithGroup (flat_map (group_texts texts) all)
groups_first read texts part at [] small = inl refl
groups_first read texts part at (css ∷ all) small =
    group_first (read css) css (texts_in texts css) (flat_map (group_texts texts) all) (part css) (flat_map part all)
    small.0
    (at.whole css small.0) (at.each css small.0) (groups_first read texts part at all small.1)

-- ---- the list

group_begins : (css : ℕ) (ts : List (List ℕ)) → AllWhole (css_text css ∷ ts)
    → option_map_or begins_with_css (values (join_with_byte 44 (css_text css ∷ ts))) false ≡ true
group_begins css ts whole =
    ap (λ found. option_map_or begins_with_css found false) (values_again (css_text css) ts whole) ∙ css_is css

read_as_groups : {A : Type 0} (may_lack : Bool) (read : ℕ → Value → Option A) (v : Value) (inner : List ℕ)
    (vs : List Value) → v ≡ list inner
    → option_map_or begins_with_css (values inner) false ≡ true
    → by_css_items may_lack read (v ∷ vs) ≡ gathered (group_of may_lack read) (v ∷ vs)
read_as_groups may_lack read v inner vs is begins =
    ap (λ first. by_css_items may_lack read (first ∷ vs)) is
    ∙ ap (λ b. cond b (gathered (group_of may_lack read) (list inner ∷ vs))
    (cond (list_any is_group (list inner ∷ vs)) None (every (read 0) (list inner ∷ vs)))) begins
    ∙ ap (λ first. gathered (group_of may_lack read) (first ∷ vs)) (sym is)

groups_read : {A : Type 0} (may_lack : Bool) (read : ℕ → Value → Option A) (groups : List (List ℕ))
    → BeginsWithGroup groups → AllWhole groups
    → (items (value (list_text groups)) >>= by_css_items may_lack read)
    ≡ gathered (group_of may_lack read) (map value groups)
groups_read may_lack read groups first whole =
    let inner : List ℕ = join_with_byte 44 (css_text first.css ∷ first.ts) in
    let g : List ℕ = list_text (css_text first.css ∷ first.ts) in
    ap (λ gs. items (value (list_text gs)) >>= by_css_items may_lack read) first.is
    ∙ ap (λ found. found >>= by_css_items may_lack read) (items_again g first.rest (subst AllWhole first.is whole))
    ∙ read_as_groups may_lack read (value g) inner (map value first.rest) (list_again inner)
    (group_begins first.css first.ts first.whole)
    ∙ ap (λ gs. gathered (group_of may_lack read) (map value gs)) (sym first.is)

-- what is written by channel subsystem is read as what each has
pub parts_again : {A : Type 0} (may_lack : Bool) (read : ℕ → Value → Option A) (css_of : A → ℕ) (texts : List CssText)
    (part : ℕ → List A)
    → AreReadByCss read texts part → flat_map part all_css ≢ []
    → by_css may_lack read css_of (value (by_css_text texts)) ≡ Some (in_css_order css_of (flat_map part all_css))
parts_again may_lack read css_of texts part at some =
    let groups : List (List ℕ) = flat_map (group_texts texts) all_css in
    let whole : AllWhole groups = groups_whole read texts part at all_css all_small in
    let first : BeginsWithGroup groups =
    ⊎_elim (λ none. absurd (some none)) (λ begins. begins) (groups_first read texts part at all_css all_small) in
    ap (λ found. found >>= λ xs. Some (in_css_order css_of xs))
    (groups_read may_lack read groups first whole ∙ groups_gathered may_lack read texts part at all_css all_small)

-- ---- items that are written each by its own

-- an item's text is whole, and is read as what the item gives
pub record IsReadAgain {X A : Type 0} (read : ℕ → Value → Option A) (css_of : X → ℕ) (text_of : X → List ℕ)
    (give : X → A) (x : X) : Type 0 where
  pub whole : IsWhole (text_of x)
  pub again : read (css_of x) (value (text_of x)) ≡ Some (give x)

abbrev text_item : {X : Type 0} → (X → ℕ) → (X → List ℕ) → X → CssText
text_item css_of text_of x = record { css = css_of x; text = text_of x }

abbrev given : {X A : Type 0} → (X → ℕ) → (X → A) → List X → ℕ → List A
given css_of give xs css = map give (filter (λ x. css_of x == css) xs)

texts_whole : {X A : Type 0} (read : ℕ → Value → Option A) (css_of : X → ℕ) (text_of : X → List ℕ) (give : X → A)
    (xs : List X)
    → All (IsReadAgain read css_of text_of give) xs → (css : ℕ)
    → AllWhole (texts_in (map (text_item css_of text_of) xs) css)
texts_whole read css_of text_of give [] are css = tt
texts_whole read css_of text_of give (x ∷ xs) are css =
    by (css_of x == css) refl
    (texts_whole read css_of text_of give xs (All-tail (IsReadAgain read css_of text_of give) x xs are) css)
  where
    first : IsReadAgain read css_of text_of give x
    first = All-head (IsReadAgain read css_of text_of give) x xs are

    by : (b : Bool) → css_of x == css ≡ b → AllWhole (texts_in (map (text_item css_of text_of) xs) css)
        → AllWhole (texts_in (map (text_item css_of text_of) (x ∷ xs)) css)
    by true here others = rw here (first.whole, others)
    by false here others = rw here others

texts_each : {X A : Type 0} (read : ℕ → Value → Option A) (css_of : X → ℕ) (text_of : X → List ℕ) (give : X → A)
    (xs : List X)
    → All (IsReadAgain read css_of text_of give) xs → (css : ℕ)
    → every (read css) (map value (texts_in (map (text_item css_of text_of) xs) css)) ≡ Some (given css_of give xs css)
unfolding every
texts_each read css_of text_of give [] are css = refl
texts_each read css_of text_of give (x ∷ xs) are css =
    by (css_of x == css) refl
    (texts_each read css_of text_of give xs (All-tail (IsReadAgain read css_of text_of give) x xs are) css)
  where
    by : (b : Bool) → css_of x == css ≡ b
        → every (read css) (map value (texts_in (map (text_item css_of text_of) xs) css))
        ≡ Some (given css_of give xs css)
        → every (read css) (map value (texts_in (map (text_item css_of text_of) (x ∷ xs)) css))
        ≡ Some (given css_of give (x ∷ xs) css)
    by true here others =
        let first : read css (value (text_of x)) ≡ Some (give x) =
        ap (λ n. read n (value (text_of x))) (sym (eqb-true (css_of x) css here))
        ∙ (All-head (IsReadAgain read css_of text_of give) x xs are).again in
        rw (here, first, others) refl
    by false here others = rw here others

map_both : {X A : Type 0} (give : X → A) (xs ys : List X) → map give (xs ++ ys) ≡ map give xs ++ map give ys
map_both give [] ys = refl
map_both give (x ∷ xs) ys = ap (λ zs. give x ∷ zs) (map_both give xs ys)

given_all : {X A : Type 0} (css_of : X → ℕ) (give : X → A) (xs : List X) (all : List ℕ)
    → flat_map (given css_of give xs) all ≡ map give (flat_map (λ css. filter (λ x. css_of x == css) xs) all)
given_all css_of give xs [] = refl
given_all css_of give xs (css ∷ all) =
    ap (λ rest. given css_of give xs css ++ rest) (given_all css_of give xs all)
    ∙ sym (map_both give (filter (λ x. css_of x == css) xs) (flat_map (λ n. filter (λ x. css_of x == n) xs) all))

filter_given : {X A : Type 0} (p : A → Bool) (give : X → A) (xs : List X)
    → filter p (map give xs) ≡ map give (filter (λ x. p (give x)) xs)
filter_given p give [] = refl
filter_given p give (x ∷ xs) = by (p (give x)) refl (filter_given p give xs)
  where
    by : (b : Bool) → p (give x) ≡ b → filter p (map give xs) ≡ map give (filter (λ y. p (give y)) xs)
        → filter p (map give (x ∷ xs)) ≡ map give (filter (λ y. p (give y)) (x ∷ xs))
    by true here others = rw here (ap (λ ys. give x ∷ ys) others)
    by false here others = rw here others

order_given : {X A : Type 0} (css_of : A → ℕ) (give : X → A) (xs : List X) (all : List ℕ)
    → flat_map (λ css. filter (λ a. css_of a == css) (map give xs)) all
    ≡ map give (flat_map (λ css. filter (λ x. css_of (give x) == css) xs) all)
order_given css_of give xs [] = refl
order_given css_of give xs (css ∷ all) =
    (λ i. filter_given (λ a. css_of a == css) give xs i ++ order_given css_of give xs all i)
    ∙ sym (map_both give (filter (λ x. css_of (give x) == css) xs)
    (flat_map (λ n. filter (λ x. css_of (give x) == n) xs) all))

some_given : {X A : Type 0} (give : X → A) (xs : List X) → xs ≢ [] → map give xs ≢ []
some_given give [] some = λ _. some refl
some_given give (x ∷ xs) some = λ e. cc

-- items in the order of their channel subsystems are read again
pub items_by_css_again : {X A : Type 0} (may_lack : Bool) (read : ℕ → Value → Option A) (css_of : A → ℕ)
    (text_of : X → List ℕ) (give : X → A) (xs : List X)
    → xs ≢ [] → All (IsReadAgain read (λ x. css_of (give x)) text_of give) xs
    → in_css_order (λ x. css_of (give x)) xs ≡ xs
    → by_css may_lack read css_of (value (by_css_text (map (text_item (λ x. css_of (give x)) text_of) xs)))
    ≡ Some (map give xs)
items_by_css_again {X = X} may_lack read css_of text_of give xs some are ascending =
    let css_from : X → ℕ = λ x. css_of (give x) in
    let texts : List CssText = map (text_item css_from text_of) xs in
    let all : flat_map (given css_from give xs) all_css ≡ map give xs =
    given_all css_from give xs all_css ∙ ap (map give) ascending in
    parts_again may_lack read css_of texts (given css_from give xs)
    (record {
      whole = λ css _. texts_whole read css_from text_of give xs are css;
      each = λ css _. texts_each read css_from text_of give xs are css;
    })
    (λ none. some_given give xs some (sym all ∙ none))
    ∙ ap (λ ys. Some (in_css_order css_of ys)) all
    ∙ ap Some (order_given css_of give xs all_css ∙ ap (map give) ascending)
