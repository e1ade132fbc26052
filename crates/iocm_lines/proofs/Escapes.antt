-- Which characters stand for themselves in a JSON string, and what is put for the others.
use Rattle.std.proofs.Common.{◌≡◌, ℕ, suc, ◌<◌, ◌≤◌, ◌/◌, ◌%◌, List, [], ◌∷◌, ◌++◌, length, get_or, refl, sym, ap, ap₂}
use Rattle.std.proofs.Common.{◌∙◌, arith, append-nil, lt-ltb, inl, inr}
use Rattle.std.proofs.Common.{subst}
use Rattle.std.proofs.lemmas.Bool.{cases_lt}
use Rattle.std.proofs.lemmas.Bool.Decides.{nat_tests}
use Rattle.std.proofs.lemmas.Str.{encode_ascii, inside_one}
use Rattle.std.specs.Char.{digit_char, encode_utf8}
use Rattle.json.proofs.Printed.Strings.{escape_byte_plain}
use Rattle.json.specs.Print.{escape, escape_byte, escape_letter}
use Rattle.iocm_lines.proofs.Texts.{Stays}

-- a byte with no short escape and below a blank
pub long_escape : (x : ℕ) → escape_letter x ≡ 0 → x < 32
    → escape_byte x ≡ 92 ∷ 117 ∷ 48 ∷ 48 ∷ digit_char (x / 16) ∷ digit_char (x % 16) ∷ []
unfolding escape_byte
long_escape x none small = rw (none, lt-ltb x 32 small) refl

-- what is put for an ASCII character
pub escape_ascii : (c : ℕ) → c < 128 → escape (encode_utf8 c) ≡ escape_byte c
escape_ascii c small = ap escape (encode_ascii c small) ∙ append-nil (escape_byte c)

high_stay : (xs : List ℕ) → ((k : ℕ) → k < length xs → 128 ≤ get_or xs k 0) → Stays xs
high_stay [] high = refl
high_stay (x ∷ xs) high =
    let first : 128 ≤ x = high 0 (omega arith) in
    ap₂ (λ (a b : List ℕ). a ++ b) (escape_byte_plain x (λ e. omega arith) (λ e. omega arith) (omega arith))
    (high_stay xs (λ k below. high (suc k) (omega arith)))

-- a character with no short escape, and not below a blank
pub char_stays : (c : ℕ) → escape_letter c ≡ 0 → 32 ≤ c → Stays (encode_utf8 c)
char_stays c none large = elim (cases_lt c 128) [
  | inl small ↦ escape_ascii c small ∙ escape_byte_plain c (other 34 (omega arith)) (other 92 (omega arith)) large ∙ sym (encode_ascii c small)
  | inr big ↦
      high_stay (encode_utf8 c) (λ k below. elim (cases_lt (get_or (encode_utf8 c) k 0) 128) [
        | inl low ↦ absurd (omega (arith, inside_one c [] (encode_utf8 c) k (sym (append-nil _)) below low))
        | inr high ↦ high
      ])
]
  where
    other : (n : ℕ) → 0 < escape_letter n → c ≡ n → ⊥
    other n some is = let zero : escape_letter n ≡ 0 = subst (λ m. escape_letter m ≡ 0) is none in omega arith

-- a character with a short escape
pub short_escape : (c letter : ℕ) → escape_letter c ≡ letter → 0 < letter → letter < 128
    → 92 ∷ encode_utf8 letter ≡ escape (encode_utf8 c)
unfolding escape_byte
short_escape c letter is some small = elim (cases_lt c 128) [
  | inl low ↦
      ap (λ (l : List ℕ). 92 ∷ l) (encode_ascii letter small) ∙ ap (λ n. 92 ∷ n ∷ []) (sym is)
      ∙ sym (escape_ascii c low ∙ one (escape_letter c) (omega arith))
  | inr big ↦ absurd (omega (arith, none_above c big))
]
  where
    none_above : (x : ℕ) → 128 ≤ x → escape_letter x ≡ 0
    none_above x big = grind (arith, nat_tests)

    one : (n : ℕ) → 0 < escape_letter c → escape_byte c ≡ 92 ∷ escape_letter c ∷ []
    one n some = rw (lt-ltb 0 (escape_letter c) some) refl
