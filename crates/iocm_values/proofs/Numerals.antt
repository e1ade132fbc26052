-- Numbers as they are printed are read again: hexadecimal to a fixed width, and decimal.
use Rattle.std.proofs.Common.{◌≡◌, ℕ, suc, ◌+◌, ◌-◌, ◌*◌, ◌/◌, ◌%◌, ◌^◌, ◌<◌, ◌≤◌, ◌==◌, nat_le, true, false, cond}
use Rattle.std.proofs.Common.{Some, None, List, [], ◌∷◌, ◌++◌, length, refl, sym, ap, ◌∙◌, arith, le-leb, eq-eqb}
use Rattle.std.proofs.Common.{ne_eqb, ⊎_elim}
use Rattle.std.proofs.lemmas.Bool.{cases_lt}
use Rattle.std.proofs.lemmas.Bool.Decides.{nat_tests}
use Rattle.std.proofs.lemmas.List.Folds.{list_all-append}
use Rattle.std.proofs.lemmas.List.Sums.{fold-append}
use Rattle.std.proofs.lemmas.Fmt.{hex_one_digit, hex_two_digits, hex_byte, decimal_by_steps, decimal_digit}
use Rattle.std.specs.List.{list_all}
use Rattle.std.specs.Option.{option_and_then}
use Rattle.std.specs.Fmt.{decimal, digits, digits_onto, digit_glyph, padded_integral, char_count}
use Rattle.iocm_types.specs.Print.{hex1, hex2, hex4}
use Rattle.iocm_values.specs.Digits.{is_decimal_digit, is_hex_digit, hex_digit, hex_value, decimal_value, is_number}
use Rattle.iocm_values.specs.Digits.{hex_of, decimal_of}
use Rattle.iocm_values.specs.Numbers.{count_of}
use Rattle.iocm_values.proofs.Pieces.{is_plain}

-- ---- a digit

abbrev pub glyph : ℕ → ℕ
glyph n = digit_glyph true n

pub glyph_is_digit : (n : ℕ) → n < 16 → is_hex_digit (glyph n) ≡ true
glyph_is_digit n small = grind (arith, nat_tests)

pub glyph_value : (n : ℕ) → n < 16 → hex_digit (glyph n) ≡ n
glyph_value n small = grind (arith, nat_tests)

pub glyph_plain : (n : ℕ) → n < 16 → is_plain (glyph n) ≡ true
glyph_plain n small = grind (arith, nat_tests)

-- ---- so many digits

pub hex1_text : (n : ℕ) → n < 16 → hex1 n ≡ glyph n ∷ []
hex1_text n small = hex_one_digit true n small

pub hex2_text : (n : ℕ) → n < 256 → hex2 n ≡ glyph (n / 16) ∷ glyph (n % 16) ∷ []
hex2_text n small = hex_byte true n small

more_digits : (k n : ℕ) (after : List ℕ) → 16 ≤ n
    → digits_onto (suc k) 16 true n after ≡ digits_onto k 16 true (n / 16) (glyph (n % 16) ∷ after)
more_digits k n after large =
    let more : n / 16 == 0 ≡ false = ne_eqb (n / 16) 0 (λ e. omega arith) in
    ap (λ b. cond b (glyph (n % 16) ∷ after) (digits_onto k 16 true (n / 16) (glyph (n % 16) ∷ after))) more

last_digit : (k n : ℕ) (after : List ℕ) → n < 16 → digits_onto (suc k) 16 true n after ≡ glyph n ∷ after
last_digit k n after small =
    let done : n / 16 == 0 ≡ true = eq-eqb (n / 16) 0 (omega arith) in
    let same : n % 16 ≡ n = omega arith in
    ap (λ b. cond b (glyph (n % 16) ∷ after) (digits_onto k 16 true (n / 16) (glyph (n % 16) ∷ after))) done
    ∙ ap (λ d. glyph d ∷ after) same

all_digits : (n : ℕ) → digits 16 true n ≡ digits_onto 64 16 true n []
unfolding digits
all_digits n = refl

three_digits : (n : ℕ) → 256 ≤ n → n < 4096
    → digits 16 true n ≡ glyph (n / 256) ∷ glyph (n / 16 % 16) ∷ glyph (n % 16) ∷ []
three_digits n large small =
    let front : n / 16 / 16 ≡ n / 256 = omega arith in
    all_digits n ∙ more_digits 63 n [] (omega arith) ∙ more_digits 62 (n / 16) (glyph (n % 16) ∷ []) (omega arith)
    ∙ last_digit 61 (n / 16 / 16) (glyph (n / 16 % 16) ∷ glyph (n % 16) ∷ []) (omega arith)
    ∙ ap (λ d. glyph d ∷ glyph (n / 16 % 16) ∷ glyph (n % 16) ∷ []) front

four_digits : (n : ℕ) → 4096 ≤ n → n < 65536
    → digits 16 true n ≡ glyph (n / 4096) ∷ glyph (n / 256 % 16) ∷ glyph (n / 16 % 16) ∷ glyph (n % 16) ∷ []
four_digits n large small =
    let front : n / 16 / 16 / 16 ≡ n / 4096 = omega arith in
    let second : n / 16 / 16 % 16 ≡ n / 256 % 16 = omega arith in
    all_digits n ∙ more_digits 63 n [] (omega arith) ∙ more_digits 62 (n / 16) (glyph (n % 16) ∷ []) (omega arith)
    ∙ more_digits 61 (n / 16 / 16) (glyph (n / 16 % 16) ∷ glyph (n % 16) ∷ []) (omega arith)
    ∙ last_digit 60 (n / 16 / 16 / 16) (glyph (n / 16 / 16 % 16) ∷ glyph (n / 16 % 16) ∷ glyph (n % 16) ∷ [])
    (omega arith)
    ∙ (λ i. glyph (front i) ∷ glyph (second i) ∷ glyph (n / 16 % 16) ∷ glyph (n % 16) ∷ [])

abbrev four : ℕ → List ℕ
four n = glyph (n / 4096) ∷ glyph (n / 256 % 16) ∷ glyph (n / 16 % 16) ∷ glyph (n % 16) ∷ []

abbrev four_of : ℕ → ℕ → ℕ → ℕ → List ℕ
four_of a b c d = glyph a ∷ glyph b ∷ glyph c ∷ glyph d ∷ []

four_same : (n a b c d : ℕ) → n / 4096 ≡ a → n / 256 % 16 ≡ b → n / 16 % 16 ≡ c → n % 16 ≡ d → four_of a b c d ≡ four n
four_same n a b c d is_a is_b is_c is_d = sym (λ i. four_of (is_a i) (is_b i) (is_c i) (is_d i))

hex4_small : (n : ℕ) → n < 256 → hex4 n ≡ four n
unfolding padded_integral char_count
hex4_small n small = ⊎_elim
    (λ one. rw (hex_one_digit true n one) (four_same n 0 0 0 n (omega arith) (omega arith) (omega arith) (omega arith)))
    (λ two. rw (hex_two_digits true n two small)
    (four_same n 0 0 (n / 16) (n % 16) (omega arith) (omega arith) (omega arith) (omega arith)))
    (cases_lt n 16)

hex4_large : (n : ℕ) → 256 ≤ n → n < 65536 → hex4 n ≡ four n
unfolding padded_integral char_count
hex4_large n large small = ⊎_elim
    (λ three. rw (three_digits n large three)
    (four_same n 0 (n / 256) (n / 16 % 16) (n % 16) (omega arith) (omega arith) (omega arith) (omega arith)))
    (λ all. rw (four_digits n all small) refl)
    (cases_lt n 4096)

pub hex4_text : (n : ℕ) → n < 65536 → hex4 n ≡ four n
hex4_text n small = ⊎_elim (hex4_small n) (λ large. hex4_large n large small) (cases_lt n 256)

-- ---- what they are worth

read_hex : (limit width n : ℕ) (text : List ℕ) → is_number is_hex_digit text ≡ true → nat_le (length text) width ≡ true
    → hex_value text ≡ n → n ≤ limit
    → hex_of limit width text ≡ Some n
read_hex limit width n text digits fits is within = rw (digits, fits, is, le-leb n limit within) refl

one_is_number : (a : ℕ) → a < 16 → is_number is_hex_digit (glyph a ∷ []) ≡ true
one_is_number a small = rw (glyph_is_digit a small) refl

two_are_number : (a b : ℕ) → a < 16 → b < 16 → is_number is_hex_digit (glyph a ∷ glyph b ∷ []) ≡ true
two_are_number a b small_a small_b = rw (glyph_is_digit a small_a, glyph_is_digit b small_b) refl

four_are_number : (a b c d : ℕ) → a < 16 → b < 16 → c < 16 → d < 16 → is_number is_hex_digit (four_of a b c d) ≡ true
four_are_number a b c d small_a small_b small_c small_d =
    rw (glyph_is_digit a small_a, glyph_is_digit b small_b, glyph_is_digit c small_c, glyph_is_digit d small_d) refl

two_worth : (a b : ℕ) → a < 16 → b < 16 → hex_value (glyph a ∷ glyph b ∷ []) ≡ 16 * a + b
two_worth a b small_a small_b = rw (glyph_value a small_a, glyph_value b small_b) (omega arith)

four_worth : (a b c d : ℕ) → a < 16 → b < 16 → c < 16 → d < 16
    → hex_value (four_of a b c d) ≡ 16 * (16 * (16 * a + b) + c) + d
four_worth a b c d small_a small_b small_c small_d =
    rw (glyph_value a small_a, glyph_value b small_b, glyph_value c small_c, glyph_value d small_d) (omega arith)

one_worth : (a : ℕ) → a < 16 → hex_value (glyph a ∷ []) ≡ a
one_worth a small = rw (glyph_value a small) (omega arith)

-- a number of one digit is read again, and so are numbers of two and of four
pub hex1_again : (limit width n : ℕ) → n < 16 → n ≤ limit → nat_le 1 width ≡ true → hex_of limit width (hex1 n) ≡ Some n
hex1_again limit width n small within fits =
    ap (hex_of limit width) (hex1_text n small)
    ∙ read_hex limit width n (glyph n ∷ []) (one_is_number n small) fits (one_worth n small) within

pub hex2_again : (limit width n : ℕ) → n < 256 → n ≤ limit → nat_le 2 width ≡ true
    → hex_of limit width (hex2 n) ≡ Some n
hex2_again limit width n small within fits =
    ap (hex_of limit width) (hex2_text n small)
    ∙ read_hex limit width n (glyph (n / 16) ∷ glyph (n % 16) ∷ [])
    (two_are_number (n / 16) (n % 16) (omega arith) (omega arith)) fits
    (two_worth (n / 16) (n % 16) (omega arith) (omega arith) ∙ omega arith) within

pub hex4_again : (limit width n : ℕ) → n < 65536 → n ≤ limit → nat_le 4 width ≡ true
    → hex_of limit width (hex4 n) ≡ Some n
hex4_again limit width n small within fits =
    ap (hex_of limit width) (hex4_text n small)
    ∙ read_hex limit width n (four n)
    (four_are_number (n / 4096) (n / 256 % 16) (n / 16 % 16) (n % 16) (omega arith) (omega arith) (omega arith)
    (omega arith)) fits
    (four_worth (n / 4096) (n / 256 % 16) (n / 16 % 16) (n % 16) (omega arith) (omega arith) (omega arith) (omega arith)
    ∙ omega arith) within

-- ---- plain

pub hex1_plain : (n : ℕ) → n < 16 → list_all is_plain (hex1 n) ≡ true
hex1_plain n small = ap (list_all is_plain) (hex1_text n small) ∙ rw (glyph_plain n small) refl

pub hex2_plain : (n : ℕ) → n < 256 → list_all is_plain (hex2 n) ≡ true
hex2_plain n small =
    let high : n / 16 < 16 = omega arith in
    let low : n % 16 < 16 = omega arith in
    ap (list_all is_plain) (hex2_text n small) ∙ rw (glyph_plain (n / 16) high, glyph_plain (n % 16) low) refl

four_plain : (a b c d : ℕ) → a < 16 → b < 16 → c < 16 → d < 16 → list_all is_plain (four_of a b c d) ≡ true
four_plain a b c d small_a small_b small_c small_d =
    rw (glyph_plain a small_a, glyph_plain b small_b, glyph_plain c small_c, glyph_plain d small_d) refl

pub hex4_plain : (n : ℕ) → n < 65536 → list_all is_plain (hex4 n) ≡ true
hex4_plain n small =
    ap (list_all is_plain) (hex4_text n small)
    ∙ four_plain (n / 4096) (n / 256 % 16) (n / 16 % 16) (n % 16) (omega arith) (omega arith) (omega arith)
    (omega arith)

-- ---- decimal

-- the digits of a decimal number are digits and plain, there is one, and they are worth it
pub record IsDecimal (n : ℕ) (text : List ℕ) : Type 0 where
  pub digits : list_all is_decimal_digit text ≡ true
  pub plain : list_all is_plain text ≡ true
  pub some : length text == 0 ≡ false
  pub worth : decimal_value text ≡ n

digit_is : (d : ℕ) → d < 10 → is_decimal_digit (48 + d) ≡ true
digit_is d small = grind (arith, nat_tests)

digit_plain : (d : ℕ) → d < 10 → is_plain (48 + d) ≡ true
digit_plain d small = grind (arith, nat_tests)

some_more : (xs : List ℕ) (x : ℕ) → length (xs ++ x ∷ []) == 0 ≡ false
some_more [] x = refl
some_more (y ∷ xs) x = ne_eqb (suc (length (xs ++ x ∷ []))) 0 (λ e. omega arith)

one_decimal : (n : ℕ) → n < 10 → IsDecimal n ((48 + n) ∷ [])
one_decimal n small = record {
  digits = rw (digit_is n small) refl;
  plain = rw (digit_plain n small) refl;
  some = refl;
  worth = omega arith;
}

more_decimal : (n : ℕ) (ds : List ℕ) → 10 ≤ n → IsDecimal (n / 10) ds → IsDecimal n (ds ++ ((48 + n % 10) ∷ []))
more_decimal n ds large front = record {
  digits = rw (list_all-append is_decimal_digit ds ((48 + n % 10) ∷ []), front.digits, digit_is (n % 10) (omega arith))
      refl;
  plain = rw (list_all-append is_plain ds ((48 + n % 10) ∷ []), front.plain, digit_plain (n % 10) (omega arith)) refl;
  some = some_more ds (48 + n % 10);
  worth = fold-append (λ value b. 10 * value + (b - 48)) 0 ds ((48 + n % 10) ∷ [])
      ∙ ap (λ value. 10 * value + (48 + n % 10 - 48)) front.worth ∙ omega arith;
}

pub decimal_is : (n : ℕ) → n < 2 ^ 64 → IsDecimal n (decimal n)
decimal_is n small = decimal_by_steps IsDecimal one_decimal more_decimal n small

pub decimal_again : (limit n : ℕ) → n < 2 ^ 64 → n ≤ limit → decimal_of limit (decimal n) ≡ Some n
decimal_again limit n small within =
    let is = decimal_is n small in
    rw (is.some, is.digits, is.worth, le-leb n limit within) refl

pub count_again : (limit n : ℕ) → n < 2 ^ 64 → 1 ≤ n → n ≤ limit → count_of limit (decimal n) ≡ Some n
count_again limit n small some within =
    ap (option_and_then (λ m. cond (m == 0) None (Some m))) (decimal_again limit n small within)
    ∙ ap (λ b. cond b None (Some n)) (ne_eqb n 0 (λ e. omega arith))

glyph_decimal : (n : ℕ) → n < 10 → glyph n ≡ 48 + n
glyph_decimal n small = grind (arith, nat_tests)

-- a digit up to 9 is that of the decimal number
pub hex1_decimal : (n : ℕ) → n < 10 → hex1 n ≡ decimal n
hex1_decimal n small = hex1_text n (omega arith) ∙ ap (λ d. d ∷ []) (glyph_decimal n small)
    ∙ sym (decimal_digit n small)
