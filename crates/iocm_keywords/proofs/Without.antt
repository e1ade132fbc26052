-- A text without an S names no channel subsystems, since no word of it is CSS(..).
use Rattle.std.proofs.Common.{◌≡◌, ℕ, ◌==◌, ◌&&◌, ◌||◌, nat_le, Bool, true, false, cond, Some, None, List, [], ◌∷◌}
use Rattle.std.proofs.Common.{◌++◌, length, drop, refl, ap, ◌∙◌}
use Rattle.std.proofs.lemmas.Bool.{true≢false}
use Rattle.std.proofs.lemmas.List.Folds.{list_any-append}
use Rattle.std.specs.Prelude.{codes, take, unwrap_or}
use Rattle.std.specs.Str.{bytes_eq}
use Rattle.std.specs.List.{list_any}
use Rattle.std.specs.Option.{option_and_then}
use Rattle.iocm_statements.specs.declared.nesting.Nesting.{Nesting}
use Rattle.iocm_statements.specs.Nesting.{start, is_outside, step}
use Rattle.iocm_values.specs.Words.{ended, ends_word, begun_by, words_from}
use Rattle.iocm_statements.specs.Pieces.{pieces_of}
use Rattle.iocm_values.specs.Value.{before}
use Rattle.iocm_values.proofs.ItemWordsAmong.{none_in_items}
use Rattle.iocm_keywords.specs.LeftOut.{names_several_css, spans_css, count_decimals}

abbrev has_s : List ℕ → Bool
has_s text = list_any (λ b. b == 83) text

neither : (x y : Bool) → x || y ≡ false → (x ≡ false) × (y ≡ false)
neither true y e = absurd (true≢false e)
neither false y e = (refl, e)

nor_with : (x y : Bool) → x && (false && y) ≡ false
nor_with true y = refl
nor_with false y = refl

-- a word that doesn't begin as CSS(..) does
other_spans_none : (word : List ℕ) → bytes_eq (take 4 word) (codes "CSS(") ≡ false → spans_css word ≡ false
other_spans_none word other =
    ap (λ c. nat_le 2 (count_decimals
    (unwrap_or (option_and_then pieces_of (option_and_then (before (codes ")")) (cond c (Some (drop 4 word)) None)))
    []))) other

ended_spans : (word : List ℕ) (others : List (List ℕ)) → spans_css word ≡ false → list_any spans_css others ≡ false
    → list_any spans_css (ended word others) ≡ false
ended_spans word others here none = by (bytes_eq word (codes ")"))
  where
    by : (closing : Bool) → list_any spans_css (cond closing others (word ∷ others)) ≡ false
    by true = none
    by false = λ i. here i || none i

word_spans_none : (word : List ℕ) → has_s word ≡ false → spans_css word ≡ false
word_spans_none [] none = other_spans_none [] refl
word_spans_none (a ∷ []) none = other_spans_none (a ∷ []) (one (a == 67))
  where
    one : (x : Bool) → x && false ≡ false
    one true = refl
    one false = refl
word_spans_none (a ∷ b ∷ word) none =
    let both = neither (a == 83) (has_s (b ∷ word)) none in
    let second = neither (b == 83) (has_s word) both.1 in
    other_spans_none (a ∷ b ∷ word) (rw second.0 (nor_with (a == 67) (bytes_eq (take 2 word) (codes "S("))))

-- whichever words follow
one_of : (ends opens : Bool) (word : List ℕ) (after inside more : List (List ℕ)) → spans_css word ≡ false
    → list_any spans_css after ≡ false → list_any spans_css inside ≡ false → list_any spans_css more ≡ false
    → list_any spans_css (cond ends (ended word after) (cond opens inside more)) ≡ false
one_of true opens word after inside more here none_after none_inside none =
    ended_spans word after here none_after
one_of false true word after inside more here none_after none_inside none = none_inside
one_of false false word after inside more here none_after none_inside none = none

begun_without : (b : ℕ) → has_s (begun_by b) ≡ false
begun_without b = by (b == 41)
  where
    by : (closes : Bool) → has_s (cond closes (41 ∷ []) []) ≡ false
    by true = refl
    by false = refl

word_goes_on : (word : List ℕ) (b : ℕ) → has_s word ≡ false → (b == 83) ≡ false → has_s (word ++ b ∷ []) ≡ false
word_goes_on word b none other = list_any-append (λ c. c == 83) word (b ∷ []) ∙ (λ i. none i || (other i || false))

words_span_none : (p : Nesting) (word rest : List ℕ) → has_s word ≡ false → has_s rest ≡ false
    → list_any spans_css (words_from p word rest) ≡ false
unfolding words_from
words_span_none p word [] none none_left = ended_spans word [] (word_spans_none word none) refl
words_span_none p word (b ∷ rest) none none_left =
    let both = neither (b == 83) (has_s rest) none_left in
    one_of (is_outside p && ends_word b) (is_outside p && (b == 40) && (length word == 0)) word
    (words_from start (begun_by b) rest) (words_from p [] rest)
    (words_from (unwrap_or (step p b) p) (word ++ b ∷ []) rest)
    (word_spans_none word none)
    (words_span_none start (begun_by b) rest (begun_without b) both.1)
    (words_span_none p [] rest refl both.1)
    (words_span_none (unwrap_or (step p b) p) (word ++ b ∷ []) rest (word_goes_on word b none both.0) both.1)

pub none_without_s : (text : List ℕ) → list_any (λ b. b == 83) text ≡ false → names_several_css text ≡ false
none_without_s text none = none_in_items spans_css text (words_span_none start [] text refl none)
