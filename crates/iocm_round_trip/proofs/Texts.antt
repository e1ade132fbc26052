-- Clean texts: they are cut nowhere, and all of their bytes are printable and no blanks. Words and
-- numbers are clean, and so is a list of clean items.
use Rattle.std.proofs.Common.{◌≡◌, ℕ, ◌/◌, ◌%◌, ◌^◌, ◌<◌, ◌==◌, Bool, true, false, cond, List, [], ◌∷◌, ◌++◌, All}
use Rattle.std.proofs.Common.{filter, length, codes, refl, ap, ◌∙◌, arith}
use Rattle.std.proofs.lemmas.Bool.{and_parts, and_from}
use Rattle.std.proofs.lemmas.Bool.Decides.{nat_tests}
use Rattle.std.proofs.lemmas.List.Elements.{All-nil, All-cons, All-head, All-tail, All-append, All-map, All-filter}
use Rattle.std.proofs.lemmas.List.Folds.{list_all-append}
use Rattle.std.specs.Fmt.{decimal}
use Rattle.std.specs.List.{flat_map, list_all, join_with_byte}
use Rattle.iocm_types.specs.Name.{is_letter_or_digit, is_name}
use Rattle.iocm_types.specs.Print.{hex1, hex2, hex4}
use Rattle.iocm_columns.specs.Written.{is_graphic}
use Rattle.iocm_operands.proofs.Grouped.{AreCss, all_css, all_small}
use Rattle.iocm_operands.proofs.Names.{name_plain}
use Rattle.iocm_values.specs.declared.texts.CssText.{CssText}
use Rattle.iocm_values.specs.Digits.{is_decimal_digit}
use Rattle.iocm_values.specs.Texts.{list_text, css_text, texts_in, group_texts, by_css_text}
use Rattle.iocm_values.proofs.Levels.{whole_css, whole_items}
use Rattle.iocm_values.proofs.Numerals.{glyph, hex1_text, hex1_plain, hex2_text, hex2_plain, hex4_text, hex4_plain}
use Rattle.iocm_values.proofs.Numerals.{decimal_is}
use Rattle.iocm_values.proofs.Pieces.{IsWhole, AllWhole, is_plain, whole_plain}

pub record IsClean (text : List ℕ) : Type 0 where
  pub whole : IsWhole text
  pub graphic : list_all is_graphic text ≡ true

both_graphic : (a b : List ℕ) → list_all is_graphic a ≡ true → list_all is_graphic b ≡ true
    → list_all is_graphic (a ++ b) ≡ true
both_graphic a b first second =
    list_all-append is_graphic a b ∙ and_from (list_all is_graphic a) (list_all is_graphic b) first second

-- ---- words

pub clean_plain : (text : List ℕ) → list_all is_plain text ≡ true → list_all is_graphic text ≡ true → IsClean text
clean_plain text plain graphic = record { whole = whole_plain text plain; graphic = graphic }

letter_graphic : (b : ℕ) → is_letter_or_digit b ≡ true → is_graphic b ≡ true
letter_graphic b is = grind (arith, nat_tests)

letters_graphic : (text : List ℕ) → list_all is_letter_or_digit text ≡ true → list_all is_graphic text ≡ true
letters_graphic [] are = refl
letters_graphic (b ∷ text) are =
    let parts = and_parts (is_letter_or_digit b) (list_all is_letter_or_digit text) are in
    and_from (is_graphic b) (list_all is_graphic text) (letter_graphic b parts.0) (letters_graphic text parts.1)

pub clean_name : (name : List ℕ) → is_name name ≡ true → IsClean name
clean_name name is =
    let letters = (and_parts _ _ (and_parts _ _ (and_parts _ _ is).0).0).1 in
    clean_plain name (name_plain name is) (letters_graphic name letters)

-- ---- numbers

glyph_graphic : (n : ℕ) → n < 16 → is_graphic (glyph n) ≡ true
glyph_graphic n small = grind (arith, nat_tests)

two_graphic : (a b : ℕ) → a < 16 → b < 16 → list_all is_graphic (glyph a ∷ glyph b ∷ []) ≡ true
two_graphic a b small_a small_b = rw (glyph_graphic a small_a, glyph_graphic b small_b) refl

pub clean_hex1 : (n : ℕ) → n < 16 → IsClean (hex1 n)
clean_hex1 n small =
    clean_plain (hex1 n) (hex1_plain n small)
    (ap (list_all is_graphic) (hex1_text n small) ∙ rw (glyph_graphic n small) refl)

pub clean_hex2 : (n : ℕ) → n < 256 → IsClean (hex2 n)
clean_hex2 n small =
    clean_plain (hex2 n) (hex2_plain n small)
    (ap (list_all is_graphic) (hex2_text n small) ∙ two_graphic (n / 16) (n % 16) (omega arith) (omega arith))

pub clean_hex4 : (n : ℕ) → n < 65536 → IsClean (hex4 n)
clean_hex4 n small =
    let front : List ℕ = glyph (n / 4096) ∷ glyph (n / 256 % 16) ∷ [] in
    let back : List ℕ = glyph (n / 16 % 16) ∷ glyph (n % 16) ∷ [] in
    clean_plain (hex4 n) (hex4_plain n small)
    (ap (list_all is_graphic) (hex4_text n small)
    ∙ both_graphic front back (two_graphic (n / 4096) (n / 256 % 16) (omega arith) (omega arith))
    (two_graphic (n / 16 % 16) (n % 16) (omega arith) (omega arith)))

digit_is_letter_or_digit : (b : ℕ) → is_decimal_digit b ≡ true → is_letter_or_digit b ≡ true
digit_is_letter_or_digit b is = grind (arith, nat_tests)

digits_graphic : (text : List ℕ) → list_all is_decimal_digit text ≡ true → list_all is_graphic text ≡ true
digits_graphic [] are = refl
digits_graphic (b ∷ text) are =
    let parts = and_parts (is_decimal_digit b) (list_all is_decimal_digit text) are in
    and_from (is_graphic b) (list_all is_graphic text) (letter_graphic b (digit_is_letter_or_digit b parts.0))
    (digits_graphic text parts.1)

pub clean_decimal : (n : ℕ) → n < 2 ^ 64 → IsClean (decimal n)
clean_decimal n small = let is = decimal_is n small in
    clean_plain (decimal n) is.plain (digits_graphic (decimal n) is.digits)

-- ---- lists

all_whole : (items : List (List ℕ)) → All IsClean items → AllWhole items
all_whole [] clean = tt
all_whole (x ∷ items) clean = ((All-head IsClean x items clean).whole, all_whole items (All-tail IsClean x items clean))

joined_graphic : (items : List (List ℕ)) → All IsClean items → list_all is_graphic (join_with_byte 44 items) ≡ true
joined_graphic [] clean = refl
joined_graphic (x ∷ []) clean = (All-head IsClean x [] clean).graphic
joined_graphic (x ∷ y ∷ ys) clean =
    both_graphic x (44 ∷ join_with_byte 44 (y ∷ ys)) (All-head IsClean x (y ∷ ys) clean).graphic
    (joined_graphic (y ∷ ys) (All-tail IsClean x (y ∷ ys) clean))

pub clean_list : (items : List (List ℕ)) → All IsClean items → IsClean (list_text items)
clean_list items clean = record {
  whole = whole_items items (all_whole items clean);
  graphic = both_graphic (join_with_byte 44 items) (41 ∷ []) (joined_graphic items clean) refl;
}

pub clean_pair : (a b : List ℕ) → IsClean a → IsClean b → IsClean (list_text (a ∷ b ∷ []))
clean_pair a b first second =
    clean_list (a ∷ b ∷ []) (All-cons IsClean a (b ∷ []) first (All-cons IsClean b [] second (All-nil IsClean)))

-- ---- lists by channel subsystem

pub clean_css : (css : ℕ) → css < 6 → IsClean (css_text css)
clean_css css small = record {
  whole = whole_css css (omega arith);
  graphic = both_graphic (hex1 css) (codes ")") (clean_hex1 css (omega arith)).graphic refl;
}

-- the text of each item is clean
abbrev pub AreClean : List CssText → Type 0
AreClean items = All (λ (i : CssText). IsClean i.text) items

group_clean : (items : List CssText) → AreClean items → (css : ℕ) → css < 6 → All IsClean (group_texts items css)
group_clean items clean css small = by (length (texts_in items css) == 0)
  where
    texts : All IsClean (texts_in items css)
    texts =
        All-map IsClean (λ (i : CssText). i.text) (filter (λ (i : CssText). i.css == css) items)
        (All-filter (λ (i : CssText). i.css == css) (λ (i : CssText). IsClean i.text) items clean)

    group : List ℕ
    group = list_text (css_text css ∷ texts_in items css)

    by : (none : Bool) → All IsClean (cond none [] (group ∷ []))
    by true = All-nil IsClean
    by false =
        All-cons IsClean group []
        (clean_list (css_text css ∷ texts_in items css)
        (All-cons IsClean (css_text css) (texts_in items css) (clean_css css small) texts))
        (All-nil IsClean)

groups_clean : (items : List CssText) → AreClean items → (all : List ℕ) → AreCss all
    → All IsClean (flat_map (group_texts items) all)
groups_clean items clean [] small = All-nil IsClean
groups_clean items clean (css ∷ all) small =
    All-append IsClean (group_texts items css) (flat_map (group_texts items) all) (group_clean items clean css small.0)
    (groups_clean items clean all small.1)

pub clean_by_css : (items : List CssText) → AreClean items → IsClean (by_css_text items)
clean_by_css items clean =
    clean_list (flat_map (group_texts items) all_css) (groups_clean items clean all_css all_small)
