-- The cells of paths, control units and devices are read as what they tell.
use Rattle.std.proofs.Common.{◌≡◌, ℕ, suc, ◌/◌, ◌%◌, ◌<◌, ◌≤◌, ◌==◌, Bool, true, false, cond, Option, None, Some, List, []}
use Rattle.std.proofs.Common.{◌∷◌, ◌++◌, length, take, drop, refl, sym, ap, ◌∙◌, arith, le-leb, eqb-true}
use Rattle.std.proofs.lemmas.Bool.Decides.{nat_tests}
use Rattle.std.specs.List.{position}
use Rattle.iocm_filter.specs.Words.{before_point, device_number, is_hyphen, numbers_round, device_numbers}
use Rattle.iocm_filter.specs.Words.{device_numbers_in, device_word, path_word, unit_word}
use Rattle.iocm_filter.specs.declared.meant.DeviceRange.{DeviceRange}
use Rattle.iocm_types.specs.Print.{hex1, hex2, hex4}
use Rattle.iocm_values.specs.Digits.{decimal_of}
use Rattle.iocm_values.proofs.Numerals.{glyph, hex1_text, hex4_text, hex2_again, hex4_again, hex1_decimal}
use Rattle.iocm_values.proofs.Numerals.{decimal_again}
use Rattle.iocm_words.specs.declared.ranges.DeviceNumbers.{DeviceNumbers}
use Rattle.iocm_words.specs.Ranges.{from_to, devices_word}
use Rattle.iocm_words.specs.Words as words
use Rattle.iocm_list.specs.AskedWords.{IsRange, CellsAreAskedFor}

-- ---- digits

no_hyphen : (n : ℕ) → n < 16 → is_hyphen (glyph n) ≡ false
no_hyphen n small = grind (arith, nat_tests)

no_point : (n : ℕ) → n < 16 → glyph n == 46 ≡ false
no_point n small = grind (arith, nat_tests)

-- a digit up to a limit below ten
digit_again : (limit n : ℕ) → n ≤ limit → limit < 10 → decimal_of limit (glyph n ∷ []) ≡ Some n
digit_again limit n within small =
    ap (decimal_of limit) (sym (hex1_text n (omega (arith, within, small)))
    ∙ hex1_decimal n (omega (arith, within, small)))
    ∙ decimal_again limit n (omega (arith, within, small)) within

-- ---- paths and control units

path_again : (css path : ℕ) → css < 6 → path < 256
    → path_word (words.path_word css path) ≡ Some (record { css = Some css; path = path })
path_again css path small_css small_path =
    ap (λ digits. path_word (digits ++ (46 ∷ hex2 path))) (hex1_text css (omega (arith, small_css)))
    ∙ rw (
      digit_again 5 css (omega (arith, small_css)) (omega arith),
      hex2_again 255 2 path small_path (omega (arith, small_path)) refl,
    ) refl

unit_again : (unit : ℕ) → unit < 65535 → unit_word (hex4 unit) ≡ Some unit
unit_again unit small = hex4_again 65534 4 unit (omega (arith, small)) (omega (arith, small)) refl

-- ---- devices

-- a text of four digits, and what follows it
abbrev four : ℕ → ℕ → ℕ → ℕ → List ℕ → List ℕ
four a b c d rest = glyph a ∷ glyph b ∷ glyph c ∷ glyph d ∷ rest

four_digits : (n : ℕ) (rest : List ℕ) → n < 65536
    → hex4 n ++ rest ≡ four (n / 4096) (n / 256 % 16) (n / 16 % 16) (n % 16) rest
four_digits n rest small = ap (λ text. text ++ rest) (hex4_text n small)

no_set : (a b c d : ℕ) (rest : List ℕ) → b < 16 → before_point (four a b c d rest) ≡ None
no_set a b c d rest small = rw (no_point b small) refl

hyphen_behind : (a b c d : ℕ) (rest : List ℕ) → a < 16 → b < 16 → c < 16 → d < 16
    → position is_hyphen (four a b c d (45 ∷ rest)) ≡ Some 4
hyphen_behind a b c d rest small_a small_b small_c small_d =
    rw (no_hyphen a small_a, no_hyphen b small_b, no_hyphen c small_c, no_hyphen d small_d)
    (ap (λ found. cond found (Some 4) None) (le-leb 5 (suc (suc (suc (suc (suc (length rest)))))) (omega arith)))

no_hyphen_in : (a b c d : ℕ) → a < 16 → b < 16 → c < 16 → d < 16 → position is_hyphen (four a b c d []) ≡ None
no_hyphen_in a b c d small_a small_b small_c small_d =
    rw (no_hyphen a small_a, no_hyphen b small_b, no_hyphen c small_c, no_hyphen d small_d) refl

number_again : (n : ℕ) → n < 65536 → device_number (hex4 n) ≡ Some n
number_again n small = hex4_again 65535 4 n small (omega (arith, small)) refl

-- the digits before the hyphen, and those behind it
front_of : (n : ℕ) (rest : List ℕ) → n < 65536 → take 4 (hex4 n ++ rest) ≡ hex4 n
front_of n rest small = ap (take 4) (four_digits n rest small) ∙ sym (hex4_text n small)

back_of : (n : ℕ) (rest : List ℕ) → n < 65536 → drop 5 (hex4 n ++ (45 ∷ rest)) ≡ rest
back_of n rest small = ap (drop 5) (four_digits n (45 ∷ rest) small)

-- devices as they are read
abbrev read : ℕ → ℕ → ℕ → Option DeviceRange
read set first last = Some (record { set = set; first = first; last = last })

one_again : (set n : ℕ) → n < 65536 → device_numbers set (hex4 n) ≡ read set n n
one_again set n small =
    ap (λ place. numbers_round place set (hex4 n))
    (ap (position is_hyphen) (hex4_text n small)
    ∙ no_hyphen_in (n / 4096) (n / 256 % 16) (n / 16 % 16) (n % 16) (omega (arith, small)) (omega arith)
    (omega arith) (omega arith))
    ∙ rw (number_again n small) refl

several_again : (set first last : ℕ) → first ≤ last → last < 65536
    → device_numbers set (hex4 first ++ (45 ∷ hex4 last)) ≡ read set first last
several_again set first last upwards small =
    let fits : first < 65536 = omega (arith, upwards, small) in
    ap (λ place. numbers_round place set (hex4 first ++ (45 ∷ hex4 last)))
    (ap (position is_hyphen) (four_digits first (45 ∷ hex4 last) fits)
    ∙ hyphen_behind (first / 4096) (first / 256 % 16) (first / 16 % 16) (first % 16) (hex4 last)
    (omega (arith, fits)) (omega arith) (omega arith) (omega arith))
    ∙ rw (
      front_of first (45 ∷ hex4 last) fits,
      back_of first (hex4 last) fits,
      number_again first fits,
      number_again last small,
      le-leb first last upwards,
    ) refl

numbers_again : (set first last : ℕ) → first ≤ last → last < 65536
    → device_numbers set (from_to hex4 first last) ≡ read set first last
numbers_again set first last upwards small = by (first == last) (eqb-true first last)
  where
    by : (one : Bool) → (one ≡ true → first ≡ last)
        → device_numbers set (cond one (hex4 first) (hex4 first ++ (45 ∷ hex4 last))) ≡ read set first last
    by true same =
        one_again set first (omega (arith, upwards, small))
        ∙ ap (read set first) (same refl)
    by false same = several_again set first last upwards small

-- neither form has a point in second place
no_set_in : (first last : ℕ) → first < 65536 → before_point (from_to hex4 first last) ≡ None
no_set_in first last small = by (first == last)
  where
    by : (one : Bool) → before_point (cond one (hex4 first) (hex4 first ++ (45 ∷ hex4 last))) ≡ None
    by true =
        ap before_point (hex4_text first small)
        ∙ no_set (first / 4096) (first / 256 % 16) (first / 16 % 16) (first % 16) [] (omega arith)
    by false =
        ap before_point (four_digits first (45 ∷ hex4 last) small)
        ∙ no_set (first / 4096) (first / 256 % 16) (first / 16 % 16) (first % 16) (45 ∷ hex4 last) (omega arith)

devices_again : (d : DeviceNumbers) → IsRange d
    → device_word (devices_word d) ≡ read d.set d.first d.last
devices_again d is = by (d.set == 0) (eqb-true d.set 0)
  where
    by : (first_set : Bool) → (first_set ≡ true → d.set ≡ 0)
        → device_word (cond first_set (from_to hex4 d.first d.last) (hex1 d.set ++ (46 ∷ from_to hex4 d.first d.last)))
        ≡ read d.set d.first d.last
    by true zero_set =
        ap (λ p. device_numbers_in p (from_to hex4 d.first d.last))
        (no_set_in d.first d.last (omega (arith, is.upwards, is.last)))
        ∙ numbers_again 0 d.first d.last is.upwards is.last
        ∙ ap (λ set. read set d.first d.last) (sym (zero_set refl))
    by false other =
        ap (λ digits. device_word (digits ++ (46 ∷ from_to hex4 d.first d.last)))
        (hex1_text d.set (omega (arith, is.set)))
        ∙ rw (
          digit_again 3 d.set (omega (arith, is.set)) (omega arith),
          numbers_again d.set d.first d.last is.upwards is.last,
        ) refl

pub cells_are_asked_for : CellsAreAskedFor
cells_are_asked_for = record { path = path_again; unit = unit_again; devices = devices_again }
