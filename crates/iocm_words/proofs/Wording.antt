-- Which texts are words.
use Rattle.std.proofs.Common.{◌≡◌, ℕ, zero, suc, ◌/◌, ◌%◌, ◌<◌, ◌==◌, not, Bool, true, false, cond, List, [], ◌∷◌}
use Rattle.std.proofs.Common.{◌++◌, length, replicate, refl, ◌∙◌, arith}
use Rattle.std.proofs.Math.Dec.{eqb-suc-zero}
use Rattle.std.proofs.lemmas.Bool.{and_parts, and_from}
use Rattle.std.proofs.lemmas.Bool.Decides.{nat_tests}
use Rattle.std.proofs.lemmas.List.Folds.{list_all-append}
use Rattle.std.specs.Fmt.{char_count, decimal, digit_glyph, digits, digits_onto, padded_integral}
use Rattle.std.specs.List.{list_all}
use Rattle.iocm_types.specs.Print.{hex1, hex2, hex4}
use Rattle.iocm_words.specs.Again.{is_inside, is_word}

-- each byte can stand in a word
abbrev pub Inside : List ℕ → Type 0
Inside text = list_all is_inside text ≡ true

pub record Word (text : List ℕ) : Type 0 where
  pub some : length text == 0 ≡ false
  pub inside : Inside text

not_none : (n : ℕ) → not (n == 0) ≡ true → n == 0 ≡ false
not_none zero e = cc
not_none (suc n) e = eqb-suc-zero n

pub word_is : (text : List ℕ) → is_word text ≡ true → Word text
word_is text e =
    let both = and_parts (not (length text == 0)) (list_all is_inside text) e in
    record { some = not_none (length text) both.0; inside = both.1 }

pub is_word_if : (text : List ℕ) → Word text → is_word text ≡ true
is_word_if text word = rw (word.some, word.inside) refl

-- what is in no word is not among its bytes
pub weaker : (p q : ℕ → Bool) (text : List ℕ) → ((b : ℕ) → p b ≡ true → q b ≡ true) → list_all p text ≡ true
    → list_all q text ≡ true
weaker p q [] so all = refl
weaker p q (b ∷ text) so all =
    let both = and_parts (p b) (list_all p text) all in
    and_from (q b) (list_all q text) (so b both.0) (weaker p q text so both.1)

pub no_blank : (text : List ℕ) → Inside text → list_all (λ b. not (b == 32)) text ≡ true
no_blank text inside =
    weaker is_inside (λ b. not (b == 32)) text (λ b e. (and_parts (not (b == 32)) (not (b == 10)) e).0) inside

pub no_feed : (text : List ℕ) → Inside text → list_all (λ b. not (b == 10)) text ≡ true
no_feed text inside =
    weaker is_inside (λ b. not (b == 10)) text (λ b e. (and_parts (not (b == 32)) (not (b == 10)) e).1) inside

-- ---- texts one after the other

pub inside_both : (a b : List ℕ) → Inside a → Inside b → Inside (a ++ b)
inside_both a b first second = list_all-append is_inside a b ∙ rw (first, second) refl

some_before : (a b : List ℕ) → length a == 0 ≡ false → length (a ++ b) == 0 ≡ false
some_before [] b some = cc
some_before (x ∷ a) b some = eqb-suc-zero (length (a ++ b))

some_behind : (a b : List ℕ) → length b == 0 ≡ false → length (a ++ b) == 0 ≡ false
some_behind [] b some = some
some_behind (x ∷ a) b some = eqb-suc-zero (length (a ++ b))

pub word_before : (a b : List ℕ) → Word a → Inside b → Word (a ++ b)
word_before a b word inside =
    record { some = some_before a b word.some; inside = inside_both a b word.inside inside }

pub word_behind : (a b : List ℕ) → Inside a → Word b → Word (a ++ b)
word_behind a b inside word =
    record { some = some_behind a b word.some; inside = inside_both a b inside word.inside }

-- ---- numbers

glyph_inside : (upper : Bool) (d : ℕ) → d < 16 → is_inside (digit_glyph upper d) ≡ true
glyph_inside true d small = grind (arith, nat_tests)
glyph_inside false d small = grind (arith, nat_tests)

module _ (base : ℕ) (upper : Bool) (small : (m : ℕ) → m % base < 16) where
  digits_inside : (k n : ℕ) (behind : List ℕ) → Inside behind → Inside (digits_onto k base upper n behind)
  digits_inside zero n behind inside = inside
  digits_inside (suc k) n behind inside =
      let glyph : ℕ = digit_glyph upper (n % base) in
      let more : Inside (glyph ∷ behind) =
      and_from (is_inside glyph) (list_all is_inside behind) (glyph_inside upper (n % base) (small n)) inside in
      by (n / base == 0) more (digits_inside k (n / base) (glyph ∷ behind) more)
    where
      by : (last : Bool) → Inside (digit_glyph upper (n % base) ∷ behind)
          → Inside (digits_onto k base upper (n / base) (digit_glyph upper (n % base) ∷ behind))
          → Inside (cond last (digit_glyph upper (n % base) ∷ behind)
          (digits_onto k base upper (n / base) (digit_glyph upper (n % base) ∷ behind)))
      by true here rest = here
      by false here rest = rest

  some_digits : (k n x : ℕ) (behind : List ℕ) → length (digits_onto k base upper n (x ∷ behind)) == 0 ≡ false
  some_digits zero n x behind = eqb-suc-zero (length behind)
  some_digits (suc k) n x behind =
      by (n / base == 0) (some_digits k (n / base) (digit_glyph upper (n % base)) (x ∷ behind))
    where
      by : (last : Bool)
          → length (digits_onto k base upper (n / base) (digit_glyph upper (n % base) ∷ x ∷ behind)) == 0 ≡ false
          → length (cond last (digit_glyph upper (n % base) ∷ x ∷ behind)
          (digits_onto k base upper (n / base) (digit_glyph upper (n % base) ∷ x ∷ behind))) == 0 ≡ false
      by true rest = eqb-suc-zero (suc (length behind))
      by false rest = rest

  first_digit : (k n : ℕ) → length (digits_onto (suc k) base upper n []) == 0 ≡ false
  first_digit k n = by (n / base == 0) (some_digits k (n / base) (digit_glyph upper (n % base)) [])
    where
      by : (last : Bool) → length (digits_onto k base upper (n / base) (digit_glyph upper (n % base) ∷ [])) == 0 ≡ false
          → length (cond last (digit_glyph upper (n % base) ∷ [])
          (digits_onto k base upper (n / base) (digit_glyph upper (n % base) ∷ []))) == 0 ≡ false
      by true rest = refl
      by false rest = rest

  pub digits_word : (n : ℕ) → Word (digits base upper n)
  unfolding digits
  digits_word n = record { some = first_digit 63 n; inside = digits_inside 64 n [] refl }

below_ten : (m : ℕ) → m % 10 < 16
below_ten m = omega arith

below_sixteen : (m : ℕ) → m % 16 < 16
below_sixteen m = omega arith

pub decimal_word : (n : ℕ) → Word (decimal n)
decimal_word n = digits_word 10 false below_ten n

pub hex1_word : (n : ℕ) → Word (hex1 n)
hex1_word n = digits_word 16 true below_sixteen n

zeros_inside : (n : ℕ) → Inside (replicate n 48)
zeros_inside zero = refl
zeros_inside (suc n) = zeros_inside n

-- zeros, and digits
filled_word : (k : ℕ) (text : List ℕ) → Word text → Word (replicate k 48 ++ (text ++ []))
filled_word k text word =
    word_behind (replicate k 48) (text ++ []) (zeros_inside k) (word_before text [] word refl)

pub hex2_word : (n : ℕ) → Word (hex2 n)
unfolding padded_integral char_count
hex2_word n = filled_word _ (digits 16 true n) (hex1_word n)

pub hex4_word : (n : ℕ) → Word (hex4 n)
unfolding padded_integral char_count
hex4_word n = filled_word _ (digits 16 true n) (hex1_word n)
