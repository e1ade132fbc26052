-- Values that are written are read again: words, lists by their items, and the word CSS(n).
use Rattle.std.proofs.Common.{◌≡◌, ℕ, ◌-◌, ◌<◌, ◌==◌, true, false, Some, List, [], ◌∷◌, ◌++◌, length, map, codes, refl}
use Rattle.std.proofs.Common.{ap, ◌∙◌, arith, length-append}
use Rattle.std.proofs.Math.Seq.{take-append_seam, drop-append_seam}
use Rattle.std.proofs.lemmas.Bool.{and_parts}
use Rattle.std.proofs.lemmas.Bool.Decides.{nat_tests}
use Rattle.std.proofs.lemmas.Slice.Eq.{bytes_eq-Decides}
use Rattle.std.specs.List.{list_all, join_with_byte}
use Rattle.std.specs.Option.{option_map, option_map_or, option_and_then}
use Rattle.iocm_types.specs.Print.{hex1}
use Rattle.iocm_values.specs.CssLists.{inside_css, css_number, is_css}
use Rattle.iocm_values.specs.Digits.{decimal_of}
use Rattle.iocm_values.specs.Texts.{list_text, css_text}
use Rattle.iocm_values.specs.Value.{word, list, value, values, items, items_or_one, before}
use Rattle.iocm_values.proofs.Numerals.{hex1_plain, hex1_decimal, decimal_again}
use Rattle.iocm_values.proofs.Pieces.{IsWhole, IsInner, AllWhole, is_plain, whole_plain, whole_both, whole_list}
use Rattle.iocm_values.proofs.Pieces.{inner_joined, pieces_again}

pub before_last : (text last : List ℕ) → before last (text ++ last) ≡ Some text
before_last text last =
    let rest : length (text ++ last) - length last ≡ length text = omega (arith, length-append text last) in
    rw (rest, drop-append_seam text last, take-append_seam text last, (bytes_eq-Decides last last).1 refl) refl

-- what a list writes is a list of what stands inside
pub list_again : (inner : List ℕ) → value (40 ∷ (inner ++ 41 ∷ [])) ≡ list inner
list_again inner = ap (λ found. option_map_or list found (word (40 ∷ (inner ++ 41 ∷ [])))) (before_last inner (41 ∷ []))

-- what doesn't begin with a parenthesis is a word
pub word_again : (b : ℕ) (text : List ℕ) → b == 40 ≡ false → value (b ∷ text) ≡ word (b ∷ text)
word_again b text other = rw other refl

opens_not : (b : ℕ) → is_plain b ≡ true → b == 40 ≡ false
opens_not b plain = grind (arith, nat_tests)

pub plain_again : (text : List ℕ) → list_all is_plain text ≡ true → value text ≡ word text
plain_again [] plain = refl
plain_again (b ∷ text) plain =
    word_again b text (opens_not b (and_parts (is_plain b) (list_all is_plain text) plain).0)

-- whole items are read again
pub values_again : (x : List ℕ) (xs : List (List ℕ)) → AllWhole (x ∷ xs)
    → values (join_with_byte 44 (x ∷ xs)) ≡ Some (map value (x ∷ xs))
values_again x xs whole = ap (option_map (map value)) (pieces_again x xs whole)

pub items_again : (x : List ℕ) (xs : List (List ℕ)) → AllWhole (x ∷ xs)
    → items (value (list_text (x ∷ xs))) ≡ Some (map value (x ∷ xs))
items_again x xs whole = ap items (list_again (join_with_byte 44 (x ∷ xs))) ∙ values_again x xs whole

pub items_or_one_again : (x : List ℕ) (xs : List (List ℕ)) → AllWhole (x ∷ xs)
    → items_or_one (value (list_text (x ∷ xs))) ≡ Some (map value (x ∷ xs))
items_or_one_again x xs whole = ap items_or_one (list_again (join_with_byte 44 (x ∷ xs))) ∙ values_again x xs whole

-- a list of whole items is whole
pub whole_items : (xs : List (List ℕ)) → AllWhole xs → IsWhole (list_text xs)
whole_items xs whole = whole_list (join_with_byte 44 xs) (inner_joined xs whole)

-- ---- CSS(n)

pub whole_css : (n : ℕ) → n < 16 → IsWhole (css_text n)
whole_css n small =
    let digit : IsInner (hex1 n) = inner_joined (hex1 n ∷ []) (whole_plain (hex1 n) (hex1_plain n small), tt) in
    whole_both (codes "CSS") (40 ∷ (hex1 n ++ 41 ∷ [])) (whole_plain (codes "CSS") refl) (whole_list (hex1 n) digit)

pub css_word : (n : ℕ) → value (css_text n) ≡ word (css_text n)
css_word n = refl

css_inside : (n : ℕ) → inside_css (css_text n) ≡ Some (hex1 n)
css_inside n = before_last (hex1 n) (41 ∷ [])

pub css_again : (n : ℕ) → n < 6 → css_number (css_text n) ≡ Some n
css_again n small =
    ap (option_and_then (decimal_of 5)) (css_inside n) ∙ ap (decimal_of 5) (hex1_decimal n (omega arith))
    ∙ decimal_again 5 n (omega arith) (omega arith)

pub css_is : (n : ℕ) → is_css (css_text n) ≡ true
css_is n = rw (css_inside n) refl
