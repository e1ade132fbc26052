-- Operands are words, and are read again of what is written.
use Rattle.std.proofs.Common.{◌≡◌, ℕ, ◌+◌, ◌*◌, ◌/◌, ◌%◌, ◌<◌, ◌≤◌, ◌==◌, Bool, true, false, not, cond, Some, None}
use Rattle.std.proofs.Common.{List, [], ◌∷◌, ◌++◌, refl, sym, ap, ◌∙◌, arith, le-leb, ne_eqb}
use Rattle.std.proofs.lemmas.Bool.Decides.{nat_tests}
use Rattle.std.specs.List.{fold, list_all}
use Rattle.std.specs.Fmt.{decimal, digit_glyph}
use Rattle.iocm_types.specs.declared.order.Setting.{Setting}
use Rattle.iocm_types.specs.declared.sub_id.SubId.{SubId}
use Rattle.iocm_types.specs.Print.{hex2, hex4}
use Rattle.iocm_values.specs.Digits.{is_decimal_digit, is_hex_digit, hex_digit, hex_of, hex_value, decimal_of}
use Rattle.iocm_values.specs.Reading.{◌>>=◌}
use Rattle.iocm_values.proofs.Numerals.{count_again, decimal_again, decimal_is, glyph_is_digit, glyph_value, hex1_again}
use Rattle.iocm_values.proofs.Numerals.{hex1_decimal, hex1_text, hex2_again, hex2_text, hex4_again, hex4_text}
use Rattle.iocm_script.specs.Operands.{css, enabled, fixed_hex, mif, number, set_no, setting, sub_id}
use Rattle.iocm_script.specs.Words.{is_blank}
use Rattle.iocm_script.specs.Written.{IsNumber, IsSubchannel, bit_word, is_word, parm_word, sub_id_word}
use Rattle.iocm_script.proofs.Splitting.{both_left, both_right}

-- ---- digits

abbrev glyph : ℕ → ℕ
glyph n = digit_glyph true n

abbrev four : ℕ → List ℕ
four n = glyph (n / 4096) ∷ glyph (n / 256 % 16) ∷ glyph (n / 16 % 16) ∷ glyph (n % 16) ∷ []

unblank : (n : ℕ) → n < 16 → is_blank (glyph n) ≡ false
unblank n small = grind (arith, nat_tests)

two_digits : (l : ℕ) → l < 256 → fixed_hex 255 2 (hex2 l) ≡ Some l
two_digits l small =
    ap (fixed_hex 255 2) (hex2_text l small) ∙ ap (hex_of 255 2) (sym (hex2_text l small))
    ∙ hex2_again 255 2 l small (omega arith) refl

four_digits : (n : ℕ) → n < 65536 → fixed_hex 65535 4 (four n) ≡ Some n
four_digits n small = ap (hex_of 65535 4) (sym (hex4_text n small)) ∙ hex4_again 65535 4 n small (omega arith) refl

-- ---- eight digits

worth : (v a b c d : ℕ) → a < 16 → b < 16 → c < 16 → d < 16
    → fold (λ value b. 16 * value + hex_digit b) v (glyph a ∷ glyph b ∷ glyph c ∷ glyph d ∷ [])
    ≡ 16 * (16 * (16 * (16 * v + a) + b) + c) + d
worth v a b c d small_a small_b small_c small_d =
    rw (glyph_value a small_a, glyph_value b small_b, glyph_value c small_c, glyph_value d small_d) refl

four_worth : (v n : ℕ) → n < 65536 → fold (λ value b. 16 * value + hex_digit b) v (four n) ≡ 65536 * v + n
four_worth v n small =
    worth v (n / 4096) (n / 256 % 16) (n / 16 % 16) (n % 16) (omega arith) (omega arith) (omega arith) (omega arith)
    ∙ omega arith

eight_worth : (p : ℕ) → p < 4294967296 → hex_value (four (p / 65536) ++ four (p % 65536)) ≡ p
eight_worth p small =
    four_worth (hex_value (four (p / 65536))) (p % 65536) (omega arith)
    ∙ ap (λ v. 65536 * v + p % 65536) (four_worth 0 (p / 65536) (omega arith)) ∙ omega arith

four_are_digits : (n : ℕ) (rest : List ℕ) → n < 65536
    → list_all is_hex_digit (four n ++ rest) ≡ list_all is_hex_digit rest
four_are_digits n rest small =
    rw (
      glyph_is_digit (n / 4096) (omega arith),
      glyph_is_digit (n / 256 % 16) (omega arith),
      glyph_is_digit (n / 16 % 16) (omega arith),
      glyph_is_digit (n % 16) (omega arith),
    ) refl

eight_are_digits : (hi lo : ℕ) → hi < 65536 → lo < 65536 → list_all is_hex_digit (four hi ++ four lo) ≡ true
eight_are_digits hi lo small_hi small_lo = four_are_digits hi (four lo) small_hi ∙ four_are_digits lo [] small_lo

eight_digits : (p : ℕ) → p < 4294967296 → fixed_hex 4294967295 8 (four (p / 65536) ++ four (p % 65536)) ≡ Some p
eight_digits p small =
    rw (
      eight_are_digits (p / 65536) (p % 65536) (omega arith) (omega arith),
      eight_worth p small,
      le-leb p 4294967295 (omega arith),
    ) refl

parm_is : (p : ℕ) → p < 4294967296 → parm_word p ≡ four (p / 65536) ++ four (p % 65536)
parm_is p small =
    ap (λ front. front ++ hex4 (p % 65536)) (hex4_text (p / 65536) (omega arith))
    ∙ ap (λ rest. four (p / 65536) ++ rest) (hex4_text (p % 65536) (omega arith))

-- ---- what is read again

css_again : (n : ℕ) → n < 6 → css (glyph n) ≡ Some n
css_again n small =
    ap (decimal_of 5) (sym (hex1_text n (omega arith)) ∙ hex1_decimal n (omega arith))
    ∙ decimal_again 5 n (omega arith) (omega arith)

set_again : (n : ℕ) → n < 4 → set_no (glyph n) ≡ Some n
set_again n small =
    ap (decimal_of 3) (sym (hex1_text n (omega arith)) ∙ hex1_decimal n (omega arith))
    ∙ decimal_again 3 n (omega arith) (omega arith)

mif_again : (n : ℕ) → 1 ≤ n → n < 16 → mif (glyph n) ≡ Some n
mif_again n some small =
    ap (λ r. r >>= λ m. cond (m == 0) None (Some m))
    (ap (hex_of 15 1) (sym (hex1_text n small)) ∙ hex1_again 15 1 n small (omega arith) refl)
    ∙ ap (λ b. cond b None (Some n)) (ne_eqb n 0 (λ e. omega arith))

sub_id_is : (s : SubId) → IsSubchannel s
    → sub_id_word s ≡ glyph s.image.css ∷ 46 ∷ glyph s.image.mif ∷ 46 ∷ glyph s.set ∷ 46 ∷ four s.number
sub_id_is s is =
    let h = is.css in let t = is.set in
    rw (
      hex1_text s.image.css (omega arith),
      hex1_text s.image.mif is.mif,
      hex1_text s.set (omega arith),
      hex4_text s.number is.number,
    ) refl

-- a subchannel is read again
pub sub_id_again : (s : SubId) → IsSubchannel s → sub_id (sub_id_word s) ≡ Some s
sub_id_again s is =
    ap sub_id (sub_id_is s is)
    ∙ rw (
      css_again s.image.css is.css,
      mif_again s.image.mif is.some is.mif,
      set_again s.set is.set,
      four_digits s.number is.number,
    ) refl

enabled_again : (e : Bool) → enabled (bit_word e) ≡ Some e
enabled_again true = refl
enabled_again false = refl

-- what MODIFY sets is read again
pub setting_again : (t : Setting) → t.lpm < 256 → t.parm < 4294967296
    → setting (bit_word t.enabled ∷ hex2 t.lpm ∷ parm_word t.parm ∷ []) ≡ Some t
setting_again t mask parm =
    rw (
      enabled_again t.enabled,
      two_digits t.lpm mask,
      ap (fixed_hex 4294967295 8) (parm_is t.parm parm)
          ∙ eight_digits t.parm parm,
    ) refl

-- a number is read again
pub number_again : (n : ℕ) → IsNumber n → number (decimal n) ≡ Some n
number_again n is = let some = is.0 in let most = is.1 in count_again 4294967295 n (omega arith) some most

-- ---- what is a word

pub sub_id_is_word : (s : SubId) → IsSubchannel s → is_word (sub_id_word s) ≡ true
sub_id_is_word s is =
    let h = is.css in let t = is.set in let n = is.number in
    ap is_word (sub_id_is s is)
    ∙ rw (
      unblank s.image.css (omega arith),
      unblank s.image.mif is.mif,
      unblank s.set (omega arith),
      unblank (s.number / 4096) (omega arith),
      unblank (s.number / 256 % 16) (omega arith),
      unblank (s.number / 16 % 16) (omega arith),
      unblank (s.number % 16) (omega arith),
    ) refl

pub bit_is_word : (e : Bool) → is_word (bit_word e) ≡ true
bit_is_word true = refl
bit_is_word false = refl

pub mask_is_word : (l : ℕ) → l < 256 → is_word (hex2 l) ≡ true
mask_is_word l small = ap is_word (hex2_text l small)
    ∙ rw (unblank (l / 16) (omega arith), unblank (l % 16) (omega arith)) refl

four_unblank : (n : ℕ) (rest : List ℕ) → n < 65536
    → list_all (λ b. not (is_blank b)) (four n ++ rest) ≡ list_all (λ b. not (is_blank b)) rest
four_unblank n rest small =
    rw (
      unblank (n / 4096) (omega arith),
      unblank (n / 256 % 16) (omega arith),
      unblank (n / 16 % 16) (omega arith),
      unblank (n % 16) (omega arith),
    ) refl

pub parm_is_word : (p : ℕ) → p < 4294967296 → is_word (parm_word p) ≡ true
parm_is_word p small =
    ap is_word (parm_is p small) ∙ four_unblank (p / 65536) (four (p % 65536)) (omega arith)
    ∙ four_unblank (p % 65536) [] (omega arith)

digit_unblank : (b : ℕ) → is_decimal_digit b ≡ true → not (is_blank b) ≡ true
digit_unblank b is = grind (arith, nat_tests)

digits_unblank : (text : List ℕ) → list_all is_decimal_digit text ≡ true → list_all (λ b. not (is_blank b)) text ≡ true
digits_unblank [] is = refl
digits_unblank (b ∷ bs) is =
    rw (
      digit_unblank b (both_left (is_decimal_digit b) (list_all is_decimal_digit bs) is),
      digits_unblank bs (both_right (is_decimal_digit b) (list_all is_decimal_digit bs) is),
    ) refl

pub number_is_word : (n : ℕ) → IsNumber n → is_word (decimal n) ≡ true
number_is_word n within =
    let most = within.1 in
    let is = decimal_is n (omega arith) in
    rw (is.some, digits_unblank (decimal n) is.digits) refl
