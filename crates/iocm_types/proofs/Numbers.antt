-- Names compared as numbers of eight bytes.
use Rattle.std.proofs.Common.{◌≡◌, ℕ, ◌+◌, ◌*◌, ◌^◌, ◌<◌, ◌≤◌, Bool, true, false, ◌&&◌, not, nat_le, nat_eq, List, []}
use Rattle.std.proofs.Common.{◌∷◌, zero, suc, length, codes, refl, sym, ap, subst, ◌∙◌, arith}
use Rattle.std.proofs.lemmas.Bool.{and_parts, leb-true}
use Rattle.std.specs.List.{list_all}
use Rattle.std.specs.Ordering.{nat_cmp, ordering_then, MatchOrdering}
use Rattle.std.specs.Cmp.{nat_cmp_is, ranks}
use Rattle.std.specs.Cmp.Lexicographic.{slice_cmp, pointwise}
use Rattle.std.specs.declared.cmp.Ordering.{Ordering}
use Rattle.std.specs.declared.cmp.Ordering.TheVariants.{Less, Equal, Greater}
use Rattle.std.proofs.Math.Nat.{mul-le-mul_right}
use Rattle.iocm_types.specs.Name.{is_name, is_letter_or_digit, begins_with_letter, number_of}
use Rattle.iocm_types.proofs.Padding.{name_is_short}

-- the value of bytes at k places, the first byte the highest
worth : ℕ → List ℕ → ℕ
worth zero bytes = 0
worth (suc k) [] = 0
worth (suc k) (b ∷ bytes) = b * 256 ^ k + worth k bytes

-- bytes of which none is zero
AreBytes : List ℕ → Type 0
AreBytes [] = Unit {0}
AreBytes (b ∷ bytes) = (0 < b) × (b < 256) × AreBytes bytes

room_for_one_more : (b p w : ℕ) → b < 256 → w < p → b * p + w < 256 * p
room_for_one_more b p w small less =
    let most : b * p ≤ 255 * p = mul-le-mul_right p (omega arith) in omega arith

some_room : (k : ℕ) → 0 < 256 ^ k
some_room zero = omega arith
some_room (suc k) = let more = some_room k in omega arith

below : (k : ℕ) (bytes : List ℕ) → AreBytes bytes → worth k bytes < 256 ^ k
unfolding worth AreBytes
below zero bytes are = omega arith
below (suc k) [] are = some_room (suc k)
below (suc k) (b ∷ bytes) are =
    let rest = room_for_one_more b (256 ^ k) (worth k bytes) are.1 (below k bytes are.2) in omega arith

-- the first bytes decide, and else the rest does
step : (x y p v w : ℕ) → v < p → w < p → ordering_then (nat_cmp x y) (nat_cmp v w) ≡ nat_cmp (x * p + v) (y * p + w)
step x y p v w less_v less_w = nat_cmp_is (x * p + v) (y * p + w) _ (by_first (nat_cmp x y) (ranks x y))
  where
    by_second : x ≡ y → (r : Ordering) → MatchOrdering r (v < w) (v ≡ w) (w < v)
        → MatchOrdering r (x * p + v < y * p + w) (x * p + v ≡ y * p + w) (y * p + w < x * p + v)
    by_second same Less less = subst (λ n. x * p + v < n * p + w) same (omega arith)
    by_second same Equal is = λ i. same i * p + is i
    by_second same Greater more = subst (λ n. n * p + w < x * p + v) same (omega arith)

    by_first : (r : Ordering) → MatchOrdering r (x < y) (x ≡ y) (y < x)
        → MatchOrdering (ordering_then r (nat_cmp v w)) (x * p + v < y * p + w) (x * p + v ≡ y * p + w)
        (y * p + w < x * p + v)
    by_first Less less = let much : (x + 1) * p ≤ y * p = mul-le-mul_right p (omega arith) in grind arith
    by_first Equal same = by_second same (nat_cmp v w) (ranks v w)
    by_first Greater more = let much : (y + 1) * p ≤ x * p = mul-le-mul_right p (omega arith) in grind arith

in_order : (k : ℕ) (xs ys : List ℕ) → AreBytes xs → AreBytes ys → length xs ≤ k → length ys ≤ k
    → slice_cmp nat_cmp xs ys ≡ nat_cmp (worth k xs) (worth k ys)
unfolding worth AreBytes
in_order k [] [] are_x are_y short_x short_y = sym (nothing k)
  where
    nothing : (k : ℕ) → nat_cmp (worth k []) (worth k []) ≡ Equal
    nothing zero = refl
    nothing (suc k) = refl
in_order zero [] (y ∷ ys) are_x are_y short_x short_y = absurd (omega arith)
in_order (suc k) [] (y ∷ ys) are_x are_y short_x short_y =
    let room = some_room k in
    let much : 1 * 256 ^ k ≤ y * 256 ^ k = mul-le-mul_right (256 ^ k) (omega arith) in
    nat_cmp_is 0 (y * 256 ^ k + worth k ys) Less (omega arith)
in_order zero (x ∷ xs) ys are_x are_y short_x short_y = absurd (omega arith)
in_order (suc k) (x ∷ xs) [] are_x are_y short_x short_y =
    let room = some_room k in
    let much : 1 * 256 ^ k ≤ x * 256 ^ k = mul-le-mul_right (256 ^ k) (omega arith) in
    nat_cmp_is (x * 256 ^ k + worth k xs) 0 Greater (omega arith)
in_order (suc k) (x ∷ xs) (y ∷ ys) are_x are_y short_x short_y =
    ap (ordering_then (nat_cmp x y)) (in_order k xs ys are_x.2 are_y.2 (omega arith) (omega arith))
    ∙ step x y (256 ^ k) (worth k xs) (worth k ys) (below k xs are_x.2) (below k ys are_y.2)

-- the number of a name is the value of its bytes at eight places
number_is : (xs : List ℕ) → length xs ≤ 8 → number_of xs ≡ worth 8 xs
unfolding worth
number_is [] short = refl
number_is (a ∷ []) short = omega arith
number_is (a ∷ b ∷ []) short = omega arith
number_is (a ∷ b ∷ c ∷ []) short = omega arith
number_is (a ∷ b ∷ c ∷ d ∷ []) short = omega arith
number_is (a ∷ b ∷ c ∷ d ∷ e ∷ []) short = omega arith
number_is (a ∷ b ∷ c ∷ d ∷ e ∷ f ∷ []) short = omega arith
number_is (a ∷ b ∷ c ∷ d ∷ e ∷ f ∷ g ∷ []) short = omega arith
number_is (a ∷ b ∷ c ∷ d ∷ e ∷ f ∷ g ∷ h ∷ []) short = omega arith
number_is (a ∷ b ∷ c ∷ d ∷ e ∷ f ∷ g ∷ h ∷ j ∷ more) short = absurd (omega arith)

letters_are_bytes : (xs : List ℕ) → list_all is_letter_or_digit xs ≡ true → AreBytes xs
unfolding AreBytes
letters_are_bytes [] are = tt
letters_are_bytes (x ∷ xs) are =
    let both = and_parts (is_letter_or_digit x) (list_all is_letter_or_digit xs) are in
    (grind (arith, leb-true), grind (arith, leb-true), letters_are_bytes xs both.1)

second : (a b c d : Bool) → (a && b && c && d) ≡ true → b ≡ true
second a true c d e = refl
second true false c d e = e
second false false c d e = e

-- names have the order of their numbers
pub names_by_number : (xs ys : List ℕ) → is_name xs ≡ true → is_name ys ≡ true
    → nat_cmp (number_of xs) (number_of ys) ≡ slice_cmp nat_cmp xs ys
names_by_number xs ys is_x is_y =
    let short_x = name_is_short xs is_x in
    let short_y = name_is_short ys is_y in
    (λ i. nat_cmp (number_is xs short_x i) (number_is ys short_y i))
    ∙ sym (in_order 8 xs ys (bytes_of xs is_x) (bytes_of ys is_y) short_x short_y)
  where
    bytes_of : (zs : List ℕ) → is_name zs ≡ true → AreBytes zs
    bytes_of zs is = letters_are_bytes zs
        (second (begins_with_letter zs) (list_all is_letter_or_digit zs) (nat_le (length zs) 8)
        (not (pointwise nat_eq zs (codes "REC"))) is)
