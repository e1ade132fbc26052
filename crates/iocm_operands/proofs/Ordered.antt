-- Sets of names and lists by channel subsystem that were read are in order.
use Rattle.std.proofs.Common.{◌≡◌, ◌≢◌, ℕ, zero, suc, ◌<◌, ◌==◌, not, Bool, true, false, cond, Option, Some, None, List}
use Rattle.std.proofs.Common.{[], ◌∷◌, ◌++◌, filter, fold, length, get_or, All, refl, sym, ap, ◌∙◌, subst, arith}
use Rattle.std.proofs.Common.{append-nil, eqb-true, eq-eqb}
use Rattle.std.proofs.lemmas.Bool.{false≢true}
use Rattle.std.proofs.lemmas.List.Elements.{All-nil, All-cons, All-head, All-tail, All-append, All-filter}
use Rattle.std.specs.List.{flat_map, list_any}
use Rattle.std.specs.declared.cmp.Ordering.{Ordering}
use Rattle.std.specs.declared.cmp.Ordering.TheVariants.{Less, Equal, Greater}
use Rattle.std.specs.FinMap.Entries.{by_order}
use Rattle.iocm_types.specs.Name.{is_name}
use Rattle.iocm_values.specs.CssLists.{begins_with_css, begins_with_group, is_group, css_number, has_items, group}
use Rattle.iocm_values.specs.CssLists.{group_of, by_css_items, in_css_order, by_css}
use Rattle.iocm_values.specs.NameSet.{name_cmp, with_name, name_set}
use Rattle.iocm_values.specs.Reading.{◌>>=◌, every, gathered}
use Rattle.iocm_values.specs.Value.{Value, word, list, items}
use Rattle.iocm_values.proofs.Rising.{fold_again, set_is_sorted}
use Rattle.iocm_operands.specs.Again.{IsNameSet, AreByCss}
use Rattle.iocm_operands.proofs.Given.{no_value, same_value, step_gave, test_gave, css_small, values_some, every_gave}
use Rattle.iocm_operands.proofs.Grouped.{all_css}

-- ---- sets of names

-- a set of names is that of its names
pub set_of_set : (names : List (List ℕ)) → name_set (name_set names) ≡ name_set names
set_of_set names = fold_again (name_set names) [] (set_is_sorted names)

all_with : (P : List ℕ → Type 0) (names : List (List ℕ)) (name : List ℕ) → All P names → P name
    → All P (with_name names name)
all_with P [] name all is = All-cons P name [] is (All-nil P)
all_with P (n ∷ ns) name all is = by (name_cmp name n) (all_with P ns name (All-tail P n ns all) is)
  where
    by : (o : Ordering) → All P (with_name ns name)
        → All P (by_order o (name ∷ n ∷ ns) (n ∷ ns) (n ∷ with_name ns name))
    by Less rest = All-cons P name (n ∷ ns) is all
    by Equal rest = all
    by Greater rest = All-cons P n (with_name ns name) (All-head P n ns all) rest

all_fold : (P : List ℕ → Type 0) (names set : List (List ℕ)) → All P set → All P names
    → All P (fold with_name set names)
all_fold P [] set all more = all
all_fold P (name ∷ names) set all more =
    all_fold P names (with_name set name) (all_with P set name all (All-head P name names more))
    (All-tail P name names more)

-- the set of these names is one
pub name_set_is : (names : List (List ℕ)) → All (λ name. is_name name ≡ true) names → IsNameSet (name_set names)
name_set_is names are = record {
  ascending = set_of_set names;
  each = all_fold (λ name. is_name name ≡ true) names [] (All-nil (λ name. is_name name ≡ true)) are;
}

-- ---- channel subsystems

module _ {A : Type 0} (css_of : A → ℕ) where
  pub filter_both : (p : A → Bool) (xs ys : List A) → filter p (xs ++ ys) ≡ filter p xs ++ filter p ys
  filter_both p [] ys = refl
  filter_both p (x ∷ xs) ys = by (p x) refl (filter_both p xs ys)
    where
      by : (b : Bool) → p x ≡ b → filter p (xs ++ ys) ≡ filter p xs ++ filter p ys
          → filter p ((x ∷ xs) ++ ys) ≡ filter p (x ∷ xs) ++ filter p ys
      by true here others = rw here (ap (λ rest. x ∷ rest) others)
      by false here others = rw here others

  -- those of a channel subsystem
  abbrev of_css : List A → ℕ → List A
  of_css xs css = filter (λ a. css_of a == css) xs

  filtered_twice : (xs : List A) (css from : ℕ) (b : Bool) → from == css ≡ b
      → of_css (of_css xs from) css ≡ cond b (of_css xs from) []
  filtered_twice [] css from true e = refl
  filtered_twice [] css from false e = refl
  filtered_twice (x ∷ xs) css from b e = by (css_of x == from) refl b e (filtered_twice xs css from b e)
    where
      by : (c : Bool) → css_of x == from ≡ c → (b : Bool) → from == css ≡ b
          → of_css (of_css xs from) css ≡ cond b (of_css xs from) []
          → of_css (of_css (x ∷ xs) from) css ≡ cond b (of_css (x ∷ xs) from) []
      by true here true e others =
          let kept : css_of x == css ≡ true = ap (λ n. n == css) (eqb-true (css_of x) from here) ∙ e in
          rw (here, kept) (ap (λ rest. x ∷ rest) others)
      by true here false e others =
          let left : css_of x == css ≡ false = ap (λ n. n == css) (eqb-true (css_of x) from here) ∙ e in
          rw (here, left) others
      by false here true e others = rw here others
      by false here false e others = rw here others

  all_filtered : (xs : List A) (css : ℕ) (all : List ℕ)
      → of_css (flat_map (of_css xs) all) css ≡ flat_map (λ from. cond (from == css) (of_css xs from) []) all
  all_filtered xs css [] = refl
  all_filtered xs css (from ∷ all) =
      filter_both (λ a. css_of a == css) (of_css xs from) (flat_map (of_css xs) all)
      ∙ (λ i. filtered_twice xs css from (from == css) refl i ++ all_filtered xs css all i)

  one_alone : (xs : List A) (css : ℕ) → css < 6
      → flat_map (λ from. cond (from == css) (of_css xs from) []) all_css ≡ of_css xs css
  one_alone xs zero small = append-nil (of_css xs 0)
  one_alone xs (suc zero) small = append-nil (of_css xs 1)
  one_alone xs (suc (suc zero)) small = append-nil (of_css xs 2)
  one_alone xs (suc (suc (suc zero))) small = append-nil (of_css xs 3)
  one_alone xs (suc (suc (suc (suc zero)))) small = append-nil (of_css xs 4)
  one_alone xs (suc (suc (suc (suc (suc zero))))) small = append-nil (of_css xs 5)
  one_alone xs (suc (suc (suc (suc (suc (suc n)))))) small = absurd (omega arith)

  ordered_in : (xs : List A) (css : ℕ) → css < 6 → of_css (in_css_order css_of xs) css ≡ of_css xs css
  ordered_in xs css small = all_filtered xs css all_css ∙ one_alone xs css small

  -- what is in order stays so
  pub ordered_again : (xs : List A) → in_css_order css_of (in_css_order css_of xs) ≡ in_css_order css_of xs
  ordered_again xs = λ i. ordered_in xs 0 (omega arith) i
      ++ (ordered_in xs 1 (omega arith) i ++ (ordered_in xs 2 (omega arith) i
      ++ (ordered_in xs 3 (omega arith) i
      ++ (ordered_in xs 4 (omega arith) i ++ (ordered_in xs 5 (omega arith) i ++ [])))))

  pub all_ordered : (P : A → Type 0) (xs : List A) (all : List ℕ) → All P xs → All P (flat_map (of_css xs) all)
  all_ordered P xs [] are = All-nil P
  all_ordered P xs (css ∷ all) are =
      All-append P (of_css xs css) (flat_map (of_css xs) all) (All-filter (λ a. css_of a == css) P xs are)
      (all_ordered P xs all are)

  first_stays : (x : A) (xs : List A) → of_css (x ∷ xs) (css_of x) ≢ []
  first_stays x xs none =
      let here : css_of x == css_of x ≡ true = eq-eqb (css_of x) (css_of x) refl in
      let kept : x ∷ of_css xs (css_of x) ≡ [] =
      sym (ap (λ b. cond b (x ∷ of_css xs (css_of x)) (of_css xs (css_of x))) here) ∙ none in
      cc

  -- there is still an item
  ordered_some : (xs : List A) → All (λ a. css_of a < 6) xs → xs ≢ [] → in_css_order css_of xs ≢ []
  ordered_some [] small some = λ _. some refl
  ordered_some (x ∷ xs) small some = λ none.
      let within : css_of x < 6 = All-head (λ a. css_of a < 6) x xs small in
      let nothing : of_css (in_css_order css_of (x ∷ xs)) (css_of x) ≡ [] = ap (λ ys. of_css ys (css_of x)) none in
      first_stays x xs (sym (ordered_in (x ∷ xs) (css_of x) within) ∙ nothing)

-- ---- what a list by channel subsystem gives

both_some : {A : Type 0} (xs ys : List A) → xs ≢ [] → xs ++ ys ≢ []
both_some [] ys some = λ _. some refl
both_some (x ∷ xs) ys some = λ e. cc

counted : {A : Type 0} (xs : List A) → not (length xs == 0) ≡ true → xs ≢ []
counted [] some = λ _. false≢true some
counted (x ∷ xs) some = λ e. cc

module _ {A : Type 0} (P : A → Type 0) (read : ℕ → Value → Option A)
    (is : (css : ℕ) (v : Value) (a : A) → css < 6 → read css v ≡ Some a → P a) where
  group_gave : (vs : List Value) (ys : List A) → group false read vs ≡ Some ys → All P ys × (ys ≢ [])
  group_gave [] ys e = no_value ys e
  group_gave (list inner ∷ vs) ys e = no_value ys e
  group_gave (word text ∷ vs) ys e =
      let some = test_gave (has_items false vs) (css_number text >>= λ n. every (read n) vs) ys e in
      let gave = step_gave (css_number text) (λ n. every (read n) vs) ys some.1 in
      let each = every_gave P (read gave.0) (λ v a. is gave.0 v a (css_small gave.0 text gave.1)) vs ys gave.2 in
      (each.0, each.1 (counted vs some.0))

  groups_gave : (vs : List Value) (ys : List A) → gathered (group_of false read) vs ≡ Some ys
      → All P ys × (vs ≢ [] → ys ≢ [])
  unfolding gathered
  groups_gave [] ys e = let same : [] ≡ ys = same_value [] ys e in
      (subst (All P) same (All-nil P), λ some. absurd (some refl))
  groups_gave (v ∷ vs) ys e =
      let first = step_gave (group_of false read v)
      (λ front. gathered (group_of false read) vs >>= λ rest. Some (front ++ rest)) ys e in
      let rest = step_gave (gathered (group_of false read) vs) (λ others. Some (first.0 ++ others)) ys first.2 in
      let inner = step_gave (items v) (group false read) first.0 first.1 in
      let front = group_gave inner.0 first.0 inner.2 in
      let same : first.0 ++ rest.0 ≡ ys = same_value (first.0 ++ rest.0) ys rest.2 in (
        subst (All P) same (All-append P first.0 rest.0 front.0 (groups_gave vs rest.0 rest.1).0),
        λ _. subst (λ zs. zs ≢ []) same (both_some first.0 rest.0 front.1),
      )

  items_gave : (vs : List Value) (ys : List A) → vs ≢ [] → by_css_items false read vs ≡ Some ys → All P ys × (ys ≢ [])
  items_gave vs ys some e = by (begins_with_css vs) (begins_with_group vs) (list_any is_group vs) e
    where
      by : (alone groups mixed : Bool)
          → cond alone (group false read vs)
          (cond groups (gathered (group_of false read) vs) (cond mixed None (every (read 0) vs))) ≡ Some ys
          → All P ys × (ys ≢ [])
      by true groups mixed e = group_gave vs ys e
      by false true mixed e = let gave = groups_gave vs ys e in (gave.0, gave.1 some)
      by false false true e = no_value ys e
      by false false false e = let gave = every_gave P (read 0) (λ v a. is 0 v a (omega arith)) vs ys e in
          (gave.0, gave.1 some)

level_some : (v : Value) (vs : List Value) → items v ≡ Some vs → vs ≢ []
level_some (word text) vs e = no_value vs e
level_some (list inner) vs e = values_some inner vs e

-- items by channel subsystem, in order
pub by_css_gave : {A : Type 0} (P : A → Type 0) (read : ℕ → Value → Option A) (css_of : A → ℕ)
    → ((css : ℕ) (v : Value) (a : A) → css < 6 → read css v ≡ Some a → P a) → ((a : A) → P a → css_of a < 6)
    → (v : Value) (ys : List A) → by_css false read css_of v ≡ Some ys → AreByCss css_of P ys
by_css_gave P read css_of is small v ys e =
    let outer = step_gave (items v >>= by_css_items false read) (λ xs. Some (in_css_order css_of xs)) ys e in
    let level = step_gave (items v) (by_css_items false read) outer.0 outer.1 in
    let gave = items_gave P read is level.0 outer.0 (level_some v level.0 level.1) level.2 in
    let same : in_css_order css_of outer.0 ≡ ys = same_value (in_css_order css_of outer.0) ys outer.2 in
    subst (AreByCss css_of P) same (record {
      some = ordered_some css_of outer.0 (λ k d within. small (get_or outer.0 k d) (gave.0 k d within)) gave.1;
      each = all_ordered css_of P outer.0 all_css gave.0;
      ascending = ordered_again css_of outer.0;
    })
