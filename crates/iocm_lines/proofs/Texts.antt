-- Texts that need no escapes in a JSON string: numbers, names, keys and the numbers of rules.
use Rattle.std.proofs.Common.{◌≡◌, ℕ, zero, suc, ◌/◌, ◌%◌, ◌<◌, ◌==◌, List, [], ◌∷◌, ◌++◌, Bool, true, false, replicate}
use Rattle.std.proofs.Common.{if◌then◌else◌, refl, ap, ap₂, ◌∙◌, arith, codes}
use Rattle.std.proofs.Common.{sym, append_assoc, append-nil}
use Rattle.std.proofs.lemmas.Bool.{and_parts}
use Rattle.std.proofs.lemmas.Bool.Decides.{nat_tests}
use Rattle.std.proofs.lemmas.List.Concat.{flat_map-append}
use Rattle.std.specs.Fmt.{decimal, digits, digits_onto, digit_glyph, padded_integral, char_count}
use Rattle.std.specs.List.{list_all}
use Rattle.json.proofs.Printed.Strings.{escape_byte_plain}
use Rattle.json.specs.Print.{escape, escape_byte, quoted}
use Rattle.iocm_types.specs.Key.{key_text}
use Rattle.iocm_types.specs.Name.{is_letter_or_digit}
use Rattle.iocm_types.specs.Print.{hex1, hex2, hex4}
use Rattle.iocm_types.specs.Rule.{rule_text}
use Rattle.iocm_types.specs.declared.image.Image.{Image}
use Rattle.iocm_types.specs.declared.key.Key.{Key}
use Rattle.iocm_types.specs.declared.key.Key.TheVariants as key
use Rattle.iocm_types.specs.declared.rule.Rule.{Rule}
use Rattle.iocm_types.specs.declared.rule.Rule.TheVariants.{L1, L2, L3, L4, L5, L6, S1, S2, S3, S4, S5, S6}
use Rattle.iocm_types.specs.declared.rule.Rule.TheVariants.{S7, S8, S9, S10, V1, V2, V3, V4, V5, V6, V7, V8}
use Rattle.iocm_types.specs.declared.rule.Rule.TheVariants.{V9, V10, V11, V12, V13, V14, E1, E2, E3, E4, B1, J1}
use Rattle.iocm_types.specs.declared.rule.Rule.TheVariants.{J2, J3, O1, O2, O3, K1, K2, K3, Q1, G1, C1, C2}
use Rattle.iocm_types.specs.declared.rule.Rule.TheVariants.{M1, X1}
use Rattle.iocm_types.specs.declared.sub_id.SubId.{SubId}
use Rattle.iocm_lines.specs.declared.refused.Input.{Input}
use Rattle.iocm_lines.specs.declared.refused.Input.TheVariants as input
use Rattle.iocm_lines.specs.Refused.{input_text}
use Rattle.iocm_lines.specs.Members.{image_name, subchannel_name, hex8}

-- a text of which each byte stays
abbrev pub Stays : List ℕ → Type 0
Stays xs = escape xs ≡ xs

pub both_stay : (a b : List ℕ) → Stays a → Stays b → Stays (a ++ b)
both_stay a b here there = flat_map-append escape_byte a b ∙ ap₂ (λ (x y : List ℕ). x ++ y) here there

one_before : (x : ℕ) (xs : List ℕ) → escape_byte x ≡ x ∷ [] → Stays xs → Stays (x ∷ xs)
one_before x xs here there = ap₂ (λ (a b : List ℕ). a ++ b) here there

-- ---- between quotes

pub closed : (s t : List ℕ) → s ++ 34 ∷ t ≡ (s ++ 34 ∷ []) ++ t
closed s t = sym (append_assoc s (34 ∷ []) t)

-- a text between quotes, before more
pub quoted_text : (s t : List ℕ) → Stays s → 34 ∷ (s ++ 34 ∷ t) ≡ quoted s ++ t
quoted_text s t stays = ap (λ l. 34 ∷ l) (closed s t) ∙ ap (λ e. 34 ∷ ((e ++ 34 ∷ []) ++ t)) (sym stays)

-- a value with a comma, before more
pub commad : (d x : List ℕ) → ((d ++ 44 ∷ []) ++ []) ++ x ≡ d ++ 44 ∷ x
commad d x = simp (append_assoc, append-nil)

-- ---- numbers

module _ (base : ℕ) (upper : Bool) (stay : (n : ℕ) → escape_byte (digit_glyph upper (n % base)) ≡ digit_glyph upper (n % base) ∷ []) where
  either : (b : Bool) (xs ys : List ℕ) → Stays xs → Stays ys → Stays (if b then xs else ys)
  either true xs ys here there = here
  either false xs ys here there = there

  onto_stays : (k n : ℕ) (after : List ℕ) → Stays after → Stays (digits_onto k base upper n after)
  onto_stays zero n after h = h
  onto_stays (suc k) n after h =
      let more = one_before (digit_glyph upper (n % base)) after (stay n) h in
      either (n / base == 0) (digit_glyph upper (n % base) ∷ after)
      (digits_onto k base upper (n / base) (digit_glyph upper (n % base) ∷ after)) more
      (onto_stays k (n / base) (digit_glyph upper (n % base) ∷ after) more)

  pub digits_stay : (n : ℕ) → Stays (digits base upper n)
  unfolding digits
  digits_stay n = onto_stays 64 n [] refl

decimal_digit : (n : ℕ) → escape_byte (digit_glyph false (n % 10)) ≡ digit_glyph false (n % 10) ∷ []
decimal_digit n =
    let small : n % 10 < 10 = omega arith in
    escape_byte_plain (digit_glyph false (n % 10)) (λ e. grind (arith, nat_tests)) (λ e. grind (arith, nat_tests))
    (grind (arith, nat_tests))

hex_digit : (n : ℕ) → escape_byte (digit_glyph true (n % 16)) ≡ digit_glyph true (n % 16) ∷ []
hex_digit n =
    let small : n % 16 < 16 = omega arith in
    escape_byte_plain (digit_glyph true (n % 16)) (λ e. grind (arith, nat_tests)) (λ e. grind (arith, nat_tests))
    (grind (arith, nat_tests))

pub decimal_stays : (n : ℕ) → Stays (decimal n)
decimal_stays n = digits_stay 10 false decimal_digit n

pub hex1_stays : (n : ℕ) → Stays (hex1 n)
hex1_stays n = digits_stay 16 true hex_digit n

zeros_stay : (n : ℕ) → Stays (replicate n 48)
unfolding escape_byte
zeros_stay zero = refl
zeros_stay (suc n) = ap (λ l. 48 ∷ l) (zeros_stay n)

pub hex2_stays : (n : ℕ) → Stays (hex2 n)
unfolding padded_integral char_count
hex2_stays n = both_stay (replicate _ 48) _ (zeros_stay _) (both_stay (digits 16 true n) [] (hex1_stays n) refl)

pub hex4_stays : (n : ℕ) → Stays (hex4 n)
unfolding padded_integral char_count
hex4_stays n = both_stay (replicate _ 48) _ (zeros_stay _) (both_stay (digits 16 true n) [] (hex1_stays n) refl)

pub hex8_stays : (n : ℕ) → Stays (hex8 n)
unfolding padded_integral char_count
hex8_stays n = both_stay (replicate _ 48) _ (zeros_stay _) (both_stay (digits 16 true n) [] (hex1_stays n) refl)

-- ---- names

point_stays : escape_byte 46 ≡ 46 ∷ []
unfolding escape_byte
point_stays = refl

-- two texts with a point between them
pub point_between : (a b : List ℕ) → Stays a → Stays b → Stays (a ++ (46 ∷ b))
point_between a b here there = both_stay a (46 ∷ b) here (one_before 46 b point_stays there)

pub image_stays : (i : Image) → Stays (image_name i)
image_stays i = point_between (hex1 i.css) (hex1 i.mif) (hex1_stays i.css) (hex1_stays i.mif)

pub subchannel_stays : (s : SubId) → Stays (subchannel_name s)
subchannel_stays s =
    point_between (hex1 s.image.css) _ (hex1_stays s.image.css)
    (point_between (hex1 s.image.mif) _ (hex1_stays s.image.mif)
    (point_between (hex1 s.set) (hex4 s.number) (hex1_stays s.set) (hex4_stays s.number)))

letter_stays : (b : ℕ) → is_letter_or_digit b ≡ true → escape_byte b ≡ b ∷ []
letter_stays b is =
    escape_byte_plain b (λ e. grind (arith, nat_tests)) (λ e. grind (arith, nat_tests)) (grind (arith, nat_tests))

pub letters_stay : (xs : List ℕ) → list_all is_letter_or_digit xs ≡ true → Stays xs
letters_stay [] are = refl
letters_stay (x ∷ xs) are =
    let parts = and_parts (is_letter_or_digit x) (list_all is_letter_or_digit xs) are in
    rw (letter_stays x parts.0) (ap (λ l. x ∷ l) (letters_stay xs parts.1))

record Words : Type 0 where
  pub subchannel : Stays (codes "subchannel ")
  pub change : Stays (codes "change ")

word_stays : Words
unfolding escape_byte
word_stays = record { subchannel = refl; change = refl }

-- a subchannel and a change, as a refusal names them
pub about_subchannel_stays : (s : SubId) → Stays (codes "subchannel " ++ subchannel_name s)
about_subchannel_stays s = both_stay (codes "subchannel ") (subchannel_name s) word_stays.subchannel (subchannel_stays s)

pub about_change_stays : (n : ℕ) → Stays (codes "change " ++ decimal n)
about_change_stays n = both_stay (codes "change ") (decimal n) word_stays.change (decimal_stays n)

-- a text that was refused
pub input_stays : (i : Input) → Stays (input_text i)
unfolding escape_byte
input_stays input.Deck = refl
input_stays input.Change = refl
input_stays input.Old = refl
input_stays input.New = refl
input_stays input.Script = refl
input_stays (input.ChangeOf number) = about_change_stays number

-- ---- keys

pub online_stays : (css path : ℕ) (name : List ℕ) → Stays name → Stays (key_text (key.Online css path name))
unfolding escape_byte
online_stays css path name letters =
    both_stay (codes "online ") _ refl
    (point_between (hex1 css) _ (hex1_stays css) (point_between (hex2 path) name (hex2_stays path) letters))

pub key_stays : (k : Key) → ((css path : ℕ) (name : List ℕ) → k ≡ key.Online css path name → ⊥) → Stays (key_text k)
unfolding escape_byte
key_stays key.Id other = refl
key_stays key.Resource other = refl
key_stays (key.Image css mif) other =
    both_stay (codes "image ") _ refl (point_between (hex1 css) (hex1 mif) (hex1_stays css) (hex1_stays mif))
key_stays (key.Limit css set) other =
    both_stay (codes "limit ") _ refl (point_between (hex1 css) (hex1 set) (hex1_stays css) (hex1_stays set))
key_stays (key.Path css number) other =
    both_stay (codes "path ") _ refl (point_between (hex1 css) (hex2 number) (hex1_stays css) (hex2_stays number))
key_stays (key.Unit number) other = both_stay (codes "unit ") _ refl (hex4_stays number)
key_stays (key.Device set number) other =
    both_stay (codes "device ") _ refl (point_between (hex1 set) (hex4 number) (hex1_stays set) (hex4_stays number))
key_stays (key.Online css path name) other = absurd (other css path name refl)

-- ---- the numbers of rules

pub rule_stays : (r : Rule) → Stays (rule_text r)
unfolding escape_byte
rule_stays L1 = refl
rule_stays L2 = refl
rule_stays L3 = refl
rule_stays L4 = refl
rule_stays L5 = refl
rule_stays L6 = refl
rule_stays S1 = refl
rule_stays S2 = refl
rule_stays S3 = refl
rule_stays S4 = refl
rule_stays S5 = refl
rule_stays S6 = refl
rule_stays S7 = refl
rule_stays S8 = refl
rule_stays S9 = refl
rule_stays S10 = refl
rule_stays V1 = refl
rule_stays V2 = refl
rule_stays V3 = refl
rule_stays V4 = refl
rule_stays V5 = refl
rule_stays V6 = refl
rule_stays V7 = refl
rule_stays V8 = refl
rule_stays V9 = refl
rule_stays V10 = refl
rule_stays V11 = refl
rule_stays V12 = refl
rule_stays V13 = refl
rule_stays V14 = refl
rule_stays E1 = refl
rule_stays E2 = refl
rule_stays E3 = refl
rule_stays E4 = refl
rule_stays B1 = refl
rule_stays J1 = refl
rule_stays J2 = refl
rule_stays J3 = refl
rule_stays O1 = refl
rule_stays O2 = refl
rule_stays O3 = refl
rule_stays K1 = refl
rule_stays K2 = refl
rule_stays K3 = refl
rule_stays Q1 = refl
rule_stays G1 = refl
rule_stays C1 = refl
rule_stays C2 = refl
rule_stays M1 = refl
rule_stays X1 = refl
