-- The steps of the pass that finds words.
use Rattle.std.proofs.Common.{◌≡◌, ℕ, ◌+◌, ◌-◌, ◌<◌, ◌≤◌, ◌==◌, ◌&&◌, Bool, true, false, cond, List, [], ◌∷◌, ◌++◌}
use Rattle.std.proofs.Common.{length, get_or, drop, slice_range, unwrap_or, min, refl, sym, ap, ◌∙◌, append_assoc}
use Rattle.std.proofs.Common.{arith}
use Rattle.std.proofs.Math.ListN.{drop_of_length-le}
use Rattle.std.proofs.lemmas.Bool.{eqb-true}
use Rattle.std.proofs.lemmas.Bool.Decides.{nat_tests}
use Rattle.std.proofs.lemmas.List.{drop_more, length-drop, length-take}
use Rattle.std.specs.Str.{bytes_eq}
use Rattle.iocm_statements.specs.declared.nesting.Nesting.{Nesting}
use Rattle.iocm_statements.specs.Nesting.{start, is_outside, step}
use Rattle.iocm_statements.proofs.Runs.{run_grows, run_begins}
use Rattle.iocm_values.specs.Words.{ended, ends_word, begun_by, words_from}

ended_in_front : (text : List ℕ) (rest : List (List ℕ)) → ended text rest ≡ ended text [] ++ rest
ended_in_front text rest = by (bytes_eq text (41 ∷ []))
  where
    by : (b : Bool) → cond b rest (text ∷ rest) ≡ cond b [] (text ∷ []) ++ rest
    by true = refl
    by false = refl

-- where the next word begins, what is at hand of it is the parenthesis or nothing
pub next_begins : (text : List ℕ) (i next : ℕ) → i < length text → next ≡ cond (get_or text i 0 == 41) i (i + 1)
    → slice_range text next (i + 1) ≡ begun_by (get_or text i 0)
next_begins text i next within is = by (get_or text i 0 == 41) refl
  where
    one : slice_range text i (i + 1) ≡ get_or text i 0 ∷ []
    one = sym (run_grows text i i (omega arith) within) ∙ ap (λ xs. xs ++ get_or text i 0 ∷ []) (run_begins text i)

    by : (b : Bool) → get_or text i 0 == 41 ≡ b → slice_range text next (i + 1) ≡ cond b (41 ∷ []) []
    by true e = ap (λ n. slice_range text n (i + 1)) (is ∙ ap (λ c. cond c i (i + 1)) e) ∙ one
        ∙ ap (λ x. x ∷ []) (eqb-true (get_or text i 0) 41 e)
    by false e = ap (λ n. slice_range text n (i + 1)) (is ∙ ap (λ c. cond c i (i + 1)) e) ∙ run_begins text (i + 1)

-- a byte that ends the word at hand
pub byte_ends : (found more : List (List ℕ)) (p : Nesting) (text : List ℕ) (from next i : ℕ)
    → i < length text → is_outside p ≡ true → ends_word (get_or text i 0) ≡ true
    → more ≡ found ++ ended (slice_range text from i) []
    → next ≡ cond (get_or text i 0 == 41) i (i + 1)
    → found ++ words_from p (slice_range text from i) (drop i text) ≡ more
    ++ words_from start (slice_range text next (i + 1)) (drop (i + 1) text)
unfolding words_from
byte_ends found more p text from next i within out ends is begins =
    rw (drop_more text i 0 within, out, ends, is, next_begins text i next within begins)
    (ap (λ xs. found ++ xs) (ended_in_front (slice_range text from i)
    (words_from start (begun_by (get_or text i 0)) (drop (i + 1) text)))
    ∙ sym (append_assoc found (ended (slice_range text from i) [])
    (words_from start (begun_by (get_or text i 0)) (drop (i + 1) text))))

-- a parenthesis that opens a list
pub list_opens : (found : List (List ℕ)) (p : Nesting) (text : List ℕ) (from next i : ℕ)
    → i < length text → is_outside p ≡ true → get_or text i 0 ≡ 40 → from ≡ i → next ≡ i + 1
    → found ++ words_from p (slice_range text from i) (drop i text) ≡ found
    ++ words_from p (slice_range text next (i + 1)) (drop (i + 1) text)
unfolding words_from
list_opens found p text from next i within out opens here begins =
    rw (drop_more text i 0 within, out, opens, here, begins, run_begins text i, run_begins text (i + 1)) refl

pub run_length : (text : List ℕ) (from i : ℕ) → i ≤ length text → length (slice_range text from i) ≡ i - from
run_length text from i within =
    length-take (i - from) (drop from text) ∙ ap (min (i - from)) (length-drop from text) ∙ omega arith

pub same_place : (from i : ℕ) → from ≤ i → (i - from == 0) ≡ (from == i)
same_place from i begun = grind (arith, nat_tests)

-- another byte goes to the word at hand
pub byte_joins : (found : List (List ℕ)) (p q : Nesting) (text : List ℕ) (from i : ℕ)
    → from ≤ i → i < length text → is_outside p && ends_word (get_or text i 0) ≡ false
    → is_outside p && (get_or text i 0 == 40) && (from == i) ≡ false → q ≡ unwrap_or (step p (get_or text i 0)) p
    → found ++ words_from p (slice_range text from i) (drop i text) ≡ found
    ++ words_from q (slice_range text from (i + 1)) (drop (i + 1) text)
unfolding words_from
byte_joins found p q text from i begun within kept other next =
    let none : length (slice_range text from i) == 0 ≡ (from == i) =
    ap (λ n. n == 0) (run_length text from i (omega arith)) ∙ same_place from i begun in
    rw (drop_more text i 0 within, kept, none, other, ← next, run_grows text from i begun within) refl

-- at the end the word at hand is the last
pub words_end : (found : List (List ℕ)) (p : Nesting) (text word : List ℕ) (i : ℕ) → length text ≤ i
    → found ++ words_from p word (drop i text) ≡ found ++ ended word []
unfolding words_from
words_end found p text word i past = rw (drop_of_length-le text past) refl

pub ruleset word_steps = (byte_ends, list_opens, byte_joins, words_end, run_begins)
