-- What is written of an operand stands in no form that is left out: none of its words, at any
-- depth, names several channel subsystems. Bytes by their codes: 39 is a quote, 40 and 41 are
-- parentheses, 44 is a comma.
use Rattle.std.proofs.Common.{◌≡◌, ℕ, ◌<◌, ◌==◌, ◌+◌, ◌||◌, nat_le, Bool, true, false, cond, Option, Some, None, List}
use Rattle.std.proofs.Common.{[], ◌∷◌, ◌++◌, unwrap_or, All, refl, sym, ap, ◌∙◌, arith, append_assoc, append-nil}
use Rattle.std.specs.Prelude.{is_some, codes}
use Rattle.std.proofs.lemmas.Bool.{true≢false, and_parts}
use Rattle.std.proofs.lemmas.Bool.Decides.{nat_tests}
use Rattle.std.proofs.lemmas.List.Elements.{All-head, All-tail}
use Rattle.std.specs.List.{list_all, list_any, join_with_byte}
use Rattle.std.specs.Option.{option_and_then}
use Rattle.std.specs.Str.{bytes_eq}
use Rattle.iocm_types.specs.Print.{hex1}
use Rattle.iocm_statements.specs.Nesting.{start, is_outside, step}
use Rattle.iocm_statements.specs.Pieces.{pieces_of}
use Rattle.iocm_values.specs.CssLists.{inside_css}
use Rattle.iocm_values.specs.Digits.{is_number, is_decimal_digit}
use Rattle.iocm_values.specs.Texts.{list_text, css_text}
use Rattle.iocm_values.specs.Words.{ended, ends_word, words_from, words}
use Rattle.iocm_keywords.specs.LeftOut.{count_decimals, css_items, spans_css, names_several_css}
use Rattle.iocm_values.proofs.ItemWordsAmong.{none_in_items}
use Rattle.iocm_values.proofs.Levels.{before_last}
use Rattle.iocm_values.proofs.Numerals.{glyph, glyph_plain, hex1_text, hex1_plain}
use Rattle.iocm_values.proofs.Pieces.{is_plain, whole_plain, pieces_again}
use Rattle.iocm_operands.proofs.Names.{plain_is_no_css}

-- ---- where a word ends

pub comma_ends : (text rest : List ℕ) → words_from start text (44 ∷ rest) ≡ ended text (words_from start [] rest)
unfolding words_from is_outside
comma_ends text rest = refl

pub list_ends : (text rest : List ℕ) → words_from start text (41 ∷ rest) ≡ ended text (words_from start (41 ∷ []) rest)
unfolding words_from is_outside
list_ends text rest = refl

pub all_ends : (text : List ℕ) → words_from start text [] ≡ ended text []
unfolding words_from
all_ends text = refl

pub list_begins : (rest : List ℕ) → words_from start [] (40 ∷ rest) ≡ words_from start [] rest
unfolding words_from is_outside
list_begins rest = refl

-- ---- texts that lack a kind of words

-- behind the text stands a word that isn't of the kind, and none of those before is
pub record Lacks (kind : List ℕ → Bool) (text : List ℕ) : Type 0 where
  pub last : List ℕ
  pub other : kind last ≡ false
  pub stands : (rest : List ℕ)
      → list_any kind (words_from start [] (text ++ rest)) ≡ list_any kind (words_from start last rest)

-- a text that is one word, whatever stands behind
abbrev pub IsWord : List ℕ → Type 0
IsWord text = (rest : List ℕ) → words_from start [] (text ++ rest) ≡ words_from start text rest

module _ (kind : List ℕ → Bool) where
  word_lacks : (text : List ℕ) → IsWord text → kind text ≡ false → Lacks kind text
  word_lacks text word other = record { last = text; other = other; stands = λ rest. ap (list_any kind) (word rest) }

  other_ends : (last : List ℕ) (others : List (List ℕ)) → kind last ≡ false
      → list_any kind (ended last others) ≡ list_any kind others
  other_ends last others other = by (bytes_eq last (codes ")"))
    where
      by : (closes : Bool) → list_any kind (cond closes others (last ∷ others)) ≡ list_any kind others
      by true = refl
      by false = ap (λ b. b || list_any kind others) other

  pub lacks_any : (text : List ℕ) → Lacks kind text → list_any kind (words text) ≡ false
  lacks_any text lacks =
      ap (λ t. list_any kind (words t)) (sym (append-nil text)) ∙ lacks.stands []
      ∙ ap (list_any kind) (all_ends lacks.last)
      ∙ other_ends lacks.last [] lacks.other

  -- texts that commas join, up to the end of their list
  joined_lack : (x : List ℕ) (xs : List (List ℕ)) (rest : List ℕ) → All (Lacks kind) (x ∷ xs)
      → list_any kind (words_from start [] (join_with_byte 44 (x ∷ xs) ++ 41 ∷ rest))
      ≡ list_any kind (words_from start (41 ∷ []) rest)
  joined_lack x [] rest all =
      let first = All-head (Lacks kind) x [] all in
      first.stands (41 ∷ rest) ∙ ap (list_any kind) (list_ends first.last rest)
      ∙ other_ends first.last (words_from start (41 ∷ []) rest) first.other
  joined_lack x (y ∷ ys) rest all =
      let first = All-head (Lacks kind) x (y ∷ ys) all in
      let more : List ℕ = join_with_byte 44 (y ∷ ys) ++ 41 ∷ rest in
      ap (λ t. list_any kind (words_from start [] t)) (append_assoc x (44 ∷ join_with_byte 44 (y ∷ ys)) (41 ∷ rest))
      ∙ first.stands (44 ∷ more) ∙ ap (list_any kind) (comma_ends first.last more)
      ∙ other_ends first.last (words_from start [] more) first.other
      ∙ joined_lack y ys rest (All-tail (Lacks kind) x (y ∷ ys) all)

  -- a list of texts that lack it; behind a list stands its parenthesis, which is no word
  pub list_lacks : (texts : List (List ℕ)) → kind [] ≡ false → kind (41 ∷ []) ≡ false → All (Lacks kind) texts
      → Lacks kind (list_text texts)
  list_lacks texts empty closing all = record {
    last = 41 ∷ [];
    other = closing;
    stands = λ rest. ap (list_any kind) (list_begins ((join_with_byte 44 texts ++ 41 ∷ []) ++ rest))
        ∙ ap (λ t. list_any kind (words_from start [] t)) (append_assoc (join_with_byte 44 texts) (41 ∷ []) rest)
        ∙ by texts all rest;
  }
    where
      by : (xs : List (List ℕ)) → All (Lacks kind) xs → (rest : List ℕ)
          → list_any kind (words_from start [] (join_with_byte 44 xs ++ 41 ∷ rest))
          ≡ list_any kind (words_from start (41 ∷ []) rest)
      by [] all rest = ap (list_any kind) (list_ends [] rest) ∙ other_ends [] (words_from start (41 ∷ []) rest) empty
      by (x ∷ xs) all rest = joined_lack x xs rest all

-- ---- words

plain_goes_on : (b : ℕ) → is_plain b ≡ true → (ends_word b ≡ false) × (b == 40 ≡ false) × (step start b ≡ Some start)
unfolding step
plain_goes_on b plain = (grind (arith, nat_tests), grind (arith, nat_tests), grind (arith, nat_tests))

byte_goes_on : (text : List ℕ) (b : ℕ) (rest : List ℕ) → is_plain b ≡ true
    → words_from start text (b ∷ rest) ≡ words_from start (text ++ b ∷ []) rest
unfolding words_from is_outside
byte_goes_on text b rest plain = let on = plain_goes_on b plain in rw (on.0, on.1, on.2) refl

plain_goes_in : (text plain rest : List ℕ) → list_all is_plain plain ≡ true
    → words_from start text (plain ++ rest) ≡ words_from start (text ++ plain) rest
plain_goes_in text [] rest is = ap (λ t. words_from start t rest) (sym (append-nil text))
plain_goes_in text (b ∷ bs) rest is =
    let parts = and_parts (is_plain b) (list_all is_plain bs) is in
    byte_goes_on text b (bs ++ rest) parts.0 ∙ plain_goes_in (text ++ b ∷ []) bs rest parts.1
    ∙ ap (λ t. words_from start t rest) (append_assoc text (b ∷ []) bs)

pub plain_is_word : (text : List ℕ) → list_all is_plain text ≡ true → IsWord text
plain_is_word text plain rest = plain_goes_in [] text rest plain

-- a digit between the parentheses of a word
digit_goes_on : (d : ℕ) → is_plain d ≡ true → (d == 39 ≡ false) × (d == 40 ≡ false) × (d == 41 ≡ false)
digit_goes_on d plain = (grind (arith, nat_tests), grind (arith, nat_tests), grind (arith, nat_tests))

css_goes_in : (d : ℕ) (rest : List ℕ) → is_plain d ≡ true
    → words_from start [] (67 ∷ 83 ∷ 83 ∷ 40 ∷ d ∷ 41 ∷ rest) ≡ words_from start (67 ∷ 83 ∷ 83 ∷ 40 ∷ d ∷ 41 ∷ []) rest
unfolding words_from is_outside step
css_goes_in d rest plain =
    let on = digit_goes_on d plain in
    rw (on.0, on.1, on.2) (refl {a = words_from start (67 ∷ 83 ∷ 83 ∷ 40 ∷ d ∷ 41 ∷ []) rest})

pub css_is_word : (n : ℕ) → n < 16 → IsWord (css_text n)
css_is_word n small rest =
    let digit : hex1 n ≡ glyph n ∷ [] = hex1_text n small in
    ap (λ d. words_from start [] ((codes "CSS(" ++ (d ++ codes ")")) ++ rest)) digit
    ∙ css_goes_in (glyph n) rest (glyph_plain n small)
    ∙ ap (λ d. words_from start (codes "CSS(" ++ (d ++ codes ")")) rest) (sym digit)

-- ---- several channel subsystems

-- no word of the text names several
abbrev pub IsInOneCss : List ℕ → Type 0
IsInOneCss text = Lacks spans_css text

-- one isn't two
pub no_two : (is : Bool) → nat_le 2 (0 + cond is 1 0) ≡ false
no_two true = refl
no_two false = refl

-- ---- another word than CSS(..)

other_spans_none : (text : List ℕ) → is_some (inside_css text) ≡ false → spans_css text ≡ false
other_spans_none text = by (inside_css text)
  where
    by : (found : Option (List ℕ)) → is_some found ≡ false
        → nat_le 2 (count_decimals (unwrap_or (option_and_then pieces_of found) [])) ≡ false
    by None none = refl
    by (Some inner) none = absurd (true≢false none)

plain_spans_none : (text : List ℕ) → list_all is_plain text ≡ true → spans_css text ≡ false
plain_spans_none text plain = other_spans_none text (plain_is_no_css text plain)

-- ---- CSS(n)

css_has : (n : ℕ) → n < 16 → css_items (css_text n) ≡ hex1 n ∷ []
css_has n small =
    ap (λ found. unwrap_or (option_and_then pieces_of found) []) (before_last (hex1 n) (41 ∷ []))
    ∙ ap (λ found. unwrap_or found []) (pieces_again (hex1 n) [] (whole_plain (hex1 n) (hex1_plain n small), tt))

css_spans_none : (n : ℕ) → n < 16 → spans_css (css_text n) ≡ false
css_spans_none n small =
    ap (λ items. nat_le 2 (count_decimals items)) (css_has n small) ∙ no_two (is_number is_decimal_digit (hex1 n))

-- ---- texts in one

pub plain_in_one : (text : List ℕ) → list_all is_plain text ≡ true → IsInOneCss text
plain_in_one text plain = word_lacks spans_css text (plain_is_word text plain) (plain_spans_none text plain)

pub css_in_one : (n : ℕ) → n < 16 → IsInOneCss (css_text n)
css_in_one n small = word_lacks spans_css (css_text n) (css_is_word n small) (css_spans_none n small)

pub list_in_one : (texts : List (List ℕ)) → All IsInOneCss texts → IsInOneCss (list_text texts)
list_in_one texts all = list_lacks spans_css texts (other_spans_none [] refl) (other_spans_none (41 ∷ []) refl) all

pub names_one_css : (text : List ℕ) → IsInOneCss text → names_several_css text ≡ false
names_one_css text lacks = none_in_items spans_css text (lacks_any spans_css text lacks)
