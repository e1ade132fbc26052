-- The steps of the pass that finds the words of items.
use Rattle.std.proofs.Common.{◌≡◌, ℕ, ◌+◌, ◌<◌, ◌≤◌, ◌==◌, ◌&&◌, true, false, cond, List, [], ◌∷◌, ◌++◌, length, get_or}
use Rattle.std.proofs.Common.{take, drop, map, slice_range, unwrap_or, refl, sym, ap, ◌∙◌, arith}
use Rattle.std.proofs.Math.ListN.{drop_of_length-le}
use Rattle.std.proofs.lemmas.List.{drop_more, length-map, take-map}
use Rattle.iocm_statements.specs.declared.nesting.Nesting.{Nesting}
use Rattle.iocm_statements.specs.Nesting.{start, is_outside, step}
use Rattle.iocm_statements.proofs.Runs.{run_grows, run_begins}
use Rattle.iocm_values.specs.Words.{ends_word}
use Rattle.iocm_values.specs.ItemWords.{before_last, with_piece, lists_left, found_next, lists_next, nesting_next}
use Rattle.iocm_values.specs.ItemWords.{text_next, item_words_from}
use Rattle.iocm_values.proofs.Passing.{next_begins, run_length, same_place}

-- the first byte of the rest
one_more : (found : List (List ℕ)) (lists : List ℕ) (p : Nesting) (piece text : List ℕ) (i : ℕ) → i < length text
    → item_words_from found lists p piece (drop i text)
    ≡ item_words_from (found_next found lists p piece (get_or text i 0))
    (lists_next found lists p piece (get_or text i 0))
    (nesting_next p piece (get_or text i 0)) (text_next p piece (get_or text i 0)) (drop (i + 1) text)
unfolding item_words_from
one_more found lists p piece text i within = ap (item_words_from found lists p piece) (drop_more text i 0 within)

-- a byte that ends the piece at hand
pub piece_ends : (found more : List (List ℕ)) (lists left : List ℕ) (p : Nesting) (text : List ℕ) (from next i : ℕ)
    → i < length text → is_outside p ≡ true → ends_word (get_or text i 0) ≡ true
    → more ≡ with_piece found lists (slice_range text from i)
    → left ≡ lists_left lists (slice_range text from i) → next ≡ cond (get_or text i 0 == 41) i (i + 1)
    → item_words_from found lists p (slice_range text from i) (drop i text)
    ≡ item_words_from more left start (slice_range text next (i + 1)) (drop (i + 1) text)
piece_ends found more lists left p text from next i within out ends is done begins =
    one_more found lists p (slice_range text from i) text i within
    ∙ rw (out, ends, is, done, next_begins text i next within begins) refl

-- a parenthesis that opens a list
pub item_list_opens : {X : Type 0} (look : X → List ℕ) (found : List X) (count : ℕ) (lists more : List ℕ) (p : Nesting)
    (text : List ℕ) (from next i : ℕ)
    → i < length text → is_outside p ≡ true → get_or text i 0 ≡ 40 → from ≡ i → next ≡ i + 1
    → count ≡ length found → more ≡ lists ++ count ∷ []
    → item_words_from (map look found) lists p (slice_range text from i) (drop i text)
    ≡ item_words_from (map look found) more p (slice_range text next (i + 1)) (drop (i + 1) text)
item_list_opens look found count lists more p text from next i within out opens here begins counted is =
    one_more (map look found) lists p (slice_range text from i) text i within
    ∙ rw (out, opens, here, begins, is, counted, length-map found look, run_begins text i, run_begins text (i + 1)) refl

-- another byte goes to the piece at hand
pub byte_joins_piece : (found : List (List ℕ)) (lists : List ℕ) (p q : Nesting) (text : List ℕ) (from i : ℕ)
    → from ≤ i → i < length text → is_outside p && ends_word (get_or text i 0) ≡ false
    → is_outside p && (get_or text i 0 == 40) && (from == i) ≡ false → q ≡ unwrap_or (step p (get_or text i 0)) p
    → item_words_from found lists p (slice_range text from i) (drop i text)
    ≡ item_words_from found lists q (slice_range text from (i + 1)) (drop (i + 1) text)
byte_joins_piece found lists p q text from i begun within kept other next =
    let none : length (slice_range text from i) == 0 ≡ (from == i) =
    ap (λ n. n == 0) (run_length text from i (omega arith)) ∙ same_place from i begun in
    one_more found lists p (slice_range text from i) text i within
    ∙ rw (kept, none, other, ← next, run_grows text from i begun within) refl

-- at the end the piece at hand is the last
pub pieces_end : (found : List (List ℕ)) (lists : List ℕ) (p : Nesting) (text piece : List ℕ) (i : ℕ) → length text ≤ i
    → item_words_from found lists p piece (drop i text) ≡ with_piece found lists piece
unfolding item_words_from
pieces_end found lists p text piece i past = rw (drop_of_length-le text past) refl

-- the words before a list, where what follows it makes it no item
pub words_before : {X : Type 0} (look : X → List ℕ) (found left : List X) (lists : List ℕ) (b : ℕ) (more : List ℕ)
    → (b == 41) ≡ true → (length more == 0) ≡ false → left ≡ take (before_last lists) found
    → map look left ≡ with_piece (map look found) lists (b ∷ more)
words_before look found left lists b more closes some is =
    rw (closes, some) (ap (map look) is ∙ sym (take-map look (before_last lists) found))

pub ruleset item_steps = (piece_ends, item_list_opens, byte_joins_piece, pieces_end, run_begins)
