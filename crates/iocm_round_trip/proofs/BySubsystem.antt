-- Images and limits in the order of their keys stand by channel subsystem, and the sets of each
-- channel subsystem rise.
use Rattle.std.proofs.Common.{◌≡◌, ◌≢◌, ℕ, zero, suc, ◌+◌, ◌≤◌, ◌<◌, ◌==◌, nat_lt, Bool, true, false, cond, List, []}
use Rattle.std.proofs.Common.{◌∷◌, ◌++◌, map, filter, All, refl, sym, ap, ◌∙◌, arith, eqb-true}
use Rattle.std.proofs.lemmas.Bool.Decides.{nat_tests}
use Rattle.std.proofs.lemmas.List.Elements.{All-nil, All-cons, All-head, All-tail, All-append}
use Rattle.std.proofs.lemmas.Map.Keys.{IsStrictlyIncreasing-from_sorted}
use Rattle.std.specs.List.{AllByRecursion, flat_map, range_with_len}
use Rattle.std.specs.List.Sorted.{IsStrictlySortedBy}
use Rattle.std.specs.Ordering.{nat_cmp, ordering_then}
use Rattle.std.specs.declared.cmp.Ordering.TheVariants.{Less, Equal, Greater}
use Rattle.iocm_types.proofs.Orderings.{ties}
use Rattle.iocm_model.specs.Machine.Record.{Rec, ImageRecord, LimitRecord, id, resource, image, limit, path, unit}
use Rattle.iocm_model.specs.Machine.Record.{device, online}
use Rattle.iocm_values.specs.CssLists.{in_css_order}
use Rattle.iocm_operands.specs.Again.{AreByCss, AreLimits, IsImage, IsLimit}
use Rattle.iocm_deck_writer.specs.Resource.{images_of, limits_of}
use Rattle.iocm_round_trip.specs.Given.{IsGiven}
use Rattle.iocm_round_trip.proofs.InOrder.{ComesBefore, AreBehind, first_within, given_ordered}
use Rattle.iocm_round_trip.proofs.ByKind.{AreOrdered}

each_of : {A : Type 0} (P : A → Type 0) (xs : List A) → All P xs → AllByRecursion P xs
each_of P [] all = tt
each_of P (x ∷ xs) all = (All-head P x xs all, each_of P xs (All-tail P x xs all))

-- ---- by channel subsystem

module _ {A : Type 0} (css_of : A → ℕ) where
  abbrev of_css : List A → ℕ → List A
  of_css xs css = filter (λ x. css_of x == css) xs

  -- those of so many channel subsystems from one on
  abbrev from : ℕ → ℕ → List A → List A
  from css n xs = flat_map (of_css xs) (range_with_len css n)

  none_of : (css : ℕ) (xs : List A) → AllByRecursion (λ x. css < css_of x) xs → of_css xs css ≡ []
  none_of css [] past = refl
  none_of css (x ∷ xs) past =
      let above : css < css_of x = past.0 in
      let other : css_of x == css ≡ false = grind (arith, nat_tests) in
      rw other (none_of css xs past.1)

  passed : (x : A) (xs : List A) (n css : ℕ) → css_of x < css → from css n (x ∷ xs) ≡ from css n xs
  passed x xs zero css past = refl
  passed x xs (suc n) css past =
      let other : css_of x == css ≡ false = grind (arith, nat_tests) in
      rw other (ap (λ more. of_css xs css ++ more) (passed x xs n (css + 1) (omega arith)))

  all_past : (x : A) (css : ℕ) → css < css_of x → (xs : List A) → AllByRecursion (λ y. css_of x ≤ css_of y) xs
      → AllByRecursion (λ y. css < css_of y) xs
  all_past x css below [] behind = tt
  all_past x css below (y ∷ ys) behind =
      (let behind' : css_of x ≤ css_of y = behind.0 in omega arith, all_past x css below ys behind.1)

  stands_first : (x : A) (xs : List A) → AllByRecursion (λ y. css_of x ≤ css_of y) xs → (n css : ℕ) → css ≤ css_of x
      → css_of x < css + n
      → from css n (x ∷ xs) ≡ x ∷ from css n xs
  stands_first x xs behind zero css least most = absurd (omega arith)
  stands_first x xs behind (suc n) css least most =
      by (css_of x == css) refl (λ later. stands_first x xs behind n (css + 1) later (omega arith))
    where
      by : (b : Bool) → css_of x == css ≡ b → (css + 1 ≤ css_of x → from (css + 1) n (x ∷ xs) ≡ x ∷ from (css + 1) n xs)
          → from css (suc n) (x ∷ xs) ≡ x ∷ from css (suc n) xs
      by true here others =
          let same : css_of x ≡ css = eqb-true (css_of x) css here in
          rw here (ap (λ more. x ∷ (of_css xs css ++ more)) (passed x xs n (css + 1) (omega arith)))
      by false other others =
          let above : css < css_of x = grind (arith, nat_tests) in
          let none : of_css xs css ≡ [] = none_of css xs (all_past x css above xs behind) in
          rw (other, none) (others (omega arith))

  in_order : (xs : List A) → AllByRecursion (λ x. css_of x < 6) xs → AreOrdered (λ x y. css_of x ≤ css_of y) xs
      → in_css_order css_of xs ≡ xs
  in_order [] small ordered = refl
  in_order (x ∷ xs) small ordered =
      stands_first x xs ordered.0 6 0 (omega arith) small.0 ∙ ap (λ ys. x ∷ ys) (in_order xs small.1 ordered.1)

-- ---- images

abbrev BeforeImage : ImageRecord → ImageRecord → Type 0
BeforeImage a b = a.css ≤ b.css

images_alone : (r : Rec) → AreOrdered BeforeImage (images_of r)
images_alone (id carried) = tt
images_alone (resource carried) = tt
images_alone (image i) = (tt, tt)
images_alone (limit l) = tt
images_alone (path p) = tt
images_alone (unit u) = tt
images_alone (device d) = tt
images_alone (online o) = tt

images_behind : (r s : Rec) → ComesBefore r s → AreBehind BeforeImage (images_of r) (images_of s)
images_behind (id carried) s less = tt
images_behind (resource carried) s less = tt
images_behind (image i) (id carried) less = (tt, tt)
images_behind (image i) (resource carried) less = (tt, tt)
images_behind (image i) (image j) less = ((first_within i.css j.css _ less, tt), tt)
images_behind (image i) (limit l) less = (tt, tt)
images_behind (image i) (path p) less = (tt, tt)
images_behind (image i) (unit u) less = (tt, tt)
images_behind (image i) (device d) less = (tt, tt)
images_behind (image i) (online o) less = (tt, tt)
images_behind (limit l) s less = tt
images_behind (path p) s less = tt
images_behind (unit u) s less = tt
images_behind (device d) s less = tt
images_behind (online o) s less = tt

image_given : (r : Rec) → IsGiven r → All IsImage (images_of r)
image_given (id carried) is = All-nil IsImage
image_given (resource carried) is = All-nil IsImage
image_given (image i) is = All-cons IsImage i [] is (All-nil IsImage)
image_given (limit l) is = All-nil IsImage
image_given (path p) is = All-nil IsImage
image_given (unit u) is = All-nil IsImage
image_given (device d) is = All-nil IsImage
image_given (online o) is = All-nil IsImage

images_given : (rs : List Rec) → All IsGiven rs → All IsImage (flat_map images_of rs)
images_given [] are = All-nil IsImage
images_given (r ∷ rs) are =
    All-append IsImage (images_of r) (flat_map images_of rs) (image_given r (All-head IsGiven r rs are))
    (images_given rs (All-tail IsGiven r rs are))

images_small : (xs : List ImageRecord) → All IsImage xs → AllByRecursion (λ (i : ImageRecord). i.css < 6) xs
images_small [] are = tt
images_small (i ∷ xs) are = ((All-head IsImage i xs are).css, images_small xs (All-tail IsImage i xs are))

pub images_by_css : (rs : List Rec) → AreOrdered ComesBefore rs → All IsGiven rs
    → flat_map images_of rs ≢ [] → AreByCss (λ (i : ImageRecord). i.css) IsImage (flat_map images_of rs)
images_by_css rs ordered are some =
    let given = images_given rs are in
    record {
      some = some;
      each = given;
      ascending = in_order (λ (i : ImageRecord). i.css) (flat_map images_of rs)
          (images_small (flat_map images_of rs) given)
          (given_ordered BeforeImage images_of images_alone images_behind rs ordered);
    }

-- ---- limits

abbrev BeforeLimit : LimitRecord → LimitRecord → Type 0
BeforeLimit a b = (a.css ≤ b.css) × (a.css ≡ b.css → a.set < b.set)

limits_alone : (r : Rec) → AreOrdered BeforeLimit (limits_of r)
limits_alone (id carried) = tt
limits_alone (resource carried) = tt
limits_alone (image i) = tt
limits_alone (limit l) = (tt, tt)
limits_alone (path p) = tt
limits_alone (unit u) = tt
limits_alone (device d) = tt
limits_alone (online o) = tt

less_alone : (m n : ℕ) → ordering_then (nat_cmp m n) Equal ≡ Less → m < n
less_alone m n less = by (nat_lt m n) (m == n) refl refl less
  where
    by : (b c : Bool) → nat_lt m n ≡ b → m == n ≡ c → ordering_then (cond b Less (cond c Equal Greater)) Equal ≡ Less
        → m < n
    by true c below same e = grind (arith, nat_tests)
    by false true below same e = cc
    by false false below same e = cc

second_below : (a b m n : ℕ) → a ≡ b → ordering_then (nat_cmp a b) (ordering_then (nat_cmp m n) Equal) ≡ Less → m < n
second_below a b m n same less =
    less_alone m n (ap (λ o. ordering_then o (ordering_then (nat_cmp m n) Equal)) (sym (ties a b same)) ∙ less)

limits_behind : (r s : Rec) → ComesBefore r s → AreBehind BeforeLimit (limits_of r) (limits_of s)
limits_behind (id carried) s less = tt
limits_behind (resource carried) s less = tt
limits_behind (image i) s less = tt
limits_behind (limit l) (id carried) less = (tt, tt)
limits_behind (limit l) (resource carried) less = (tt, tt)
limits_behind (limit l) (image i) less = (tt, tt)
limits_behind (limit l) (limit m) less =
    (((first_within l.css m.css _ less, λ same. second_below l.css m.css l.set m.set same less), tt), tt)
limits_behind (limit l) (path p) less = (tt, tt)
limits_behind (limit l) (unit u) less = (tt, tt)
limits_behind (limit l) (device d) less = (tt, tt)
limits_behind (limit l) (online o) less = (tt, tt)
limits_behind (path p) s less = tt
limits_behind (unit u) s less = tt
limits_behind (device d) s less = tt
limits_behind (online o) s less = tt

limit_given : (r : Rec) → IsGiven r → All IsLimit (limits_of r)
limit_given (id carried) is = All-nil IsLimit
limit_given (resource carried) is = All-nil IsLimit
limit_given (image i) is = All-nil IsLimit
limit_given (limit l) is = All-cons IsLimit l [] is (All-nil IsLimit)
limit_given (path p) is = All-nil IsLimit
limit_given (unit u) is = All-nil IsLimit
limit_given (device d) is = All-nil IsLimit
limit_given (online o) is = All-nil IsLimit

limits_given : (rs : List Rec) → All IsGiven rs → All IsLimit (flat_map limits_of rs)
limits_given [] are = All-nil IsLimit
limits_given (r ∷ rs) are =
    All-append IsLimit (limits_of r) (flat_map limits_of rs) (limit_given r (All-head IsGiven r rs are))
    (limits_given rs (All-tail IsGiven r rs are))

limits_small : (xs : List LimitRecord) → All IsLimit xs → AllByRecursion (λ (l : LimitRecord). l.css < 6) xs
limits_small [] are = tt
limits_small (l ∷ xs) are = ((All-head IsLimit l xs are).css, limits_small xs (All-tail IsLimit l xs are))

css_rises_behind : (l : LimitRecord) (xs : List LimitRecord) → AllByRecursion (BeforeLimit l) xs
    → AllByRecursion (λ (m : LimitRecord). l.css ≤ m.css) xs
css_rises_behind l [] behind = tt
css_rises_behind l (m ∷ xs) behind = (behind.0.0, css_rises_behind l xs behind.1)

css_rises : (xs : List LimitRecord) → AreOrdered BeforeLimit xs → AreOrdered (λ (l m : LimitRecord). l.css ≤ m.css) xs
css_rises [] ordered = tt
css_rises (l ∷ xs) ordered = (css_rises_behind l xs ordered.0, css_rises xs ordered.1)

-- the sets of the limits of a channel subsystem
abbrev sets_of : ℕ → List LimitRecord → List ℕ
sets_of css xs = map (λ (l : LimitRecord). l.set) (filter (λ (l : LimitRecord). l.css == css) xs)

below_is_less : (m n : ℕ) → m < n → nat_cmp m n ≡ Less
below_is_less m n below = let is : nat_lt m n ≡ true = grind (arith, nat_tests) in rw is refl

sets_behind : (css : ℕ) (l : LimitRecord) → l.css ≡ css → (xs : List LimitRecord) → AllByRecursion (BeforeLimit l) xs
    → AllByRecursion (λ set. nat_cmp l.set set ≡ Less) (sets_of css xs)
sets_behind css l own [] behind = tt
sets_behind css l own (m ∷ xs) behind = by (m.css == css) refl (sets_behind css l own xs behind.1)
  where
    by : (b : Bool) → m.css == css ≡ b → AllByRecursion (λ set. nat_cmp l.set set ≡ Less) (sets_of css xs)
        → AllByRecursion (λ set. nat_cmp l.set set ≡ Less)
        (map (λ (l : LimitRecord). l.set)
        (cond b (m ∷ filter (λ (l : LimitRecord). l.css == css) xs)
        (filter (λ (l : LimitRecord). l.css == css) xs)))
    by true here rest = (below_is_less l.set m.set (behind.0.1 (own ∙ sym (eqb-true m.css css here))), rest)
    by false other rest = rest

sets_sorted : (css : ℕ) (xs : List LimitRecord) → AreOrdered BeforeLimit xs
    → IsStrictlySortedBy nat_cmp (sets_of css xs)
unfolding IsStrictlySortedBy
sets_sorted css [] ordered = tt
sets_sorted css (l ∷ xs) ordered = by (l.css == css) refl (sets_sorted css xs ordered.1)
  where
    by : (b : Bool) → l.css == css ≡ b → IsStrictlySortedBy nat_cmp (sets_of css xs)
        → IsStrictlySortedBy nat_cmp
        (map (λ (l : LimitRecord). l.set)
        (cond b (l ∷ filter (λ (l : LimitRecord). l.css == css) xs)
        (filter (λ (l : LimitRecord). l.css == css) xs)))
    by true here rest = (sets_behind css l (eqb-true l.css css here) xs ordered.0, rest)
    by false other rest = rest

pub limits_are : (rs : List Rec) → AreOrdered ComesBefore rs → All IsGiven rs → flat_map limits_of rs ≢ []
    → AreLimits (flat_map limits_of rs)
limits_are rs ordered are some =
    let given = limits_given rs are in
    let rising = given_ordered BeforeLimit limits_of limits_alone limits_behind rs ordered in
    record {
      by_css = record {
        some = some;
        each = given;
        ascending = in_order (λ (l : LimitRecord). l.css) (flat_map limits_of rs)
            (limits_small (flat_map limits_of rs) given) (css_rises (flat_map limits_of rs) rising);
      };
      sets = λ css small. IsStrictlyIncreasing-from_sorted (sets_of css (flat_map limits_of rs))
          (sets_sorted css (flat_map limits_of rs) rising);
    }
