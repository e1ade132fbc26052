-- The words of items are among the words: of no kind are there more of them.
use Rattle.std.proofs.Common.{◌≡◌, ℕ, ◌+◌, ◌≤◌, ◌==◌, ◌&&◌, ◌||◌, Bool, true, false, cond, List, [], ◌∷◌, ◌++◌, length}
use Rattle.std.proofs.Common.{take, unwrap_or, refl, ap, arith}
use Rattle.std.specs.Prelude.{count_by}
use Rattle.std.specs.List.{list_any}
use Rattle.std.specs.Str.{bytes_eq}
use Rattle.std.proofs.lemmas.Bool.{true≢false}
use Rattle.std.proofs.lemmas.List.Sums.{sum_by-cons, sum_by_push, sum_by-take-le}
use Rattle.iocm_statements.specs.declared.nesting.Nesting.{Nesting}
use Rattle.iocm_statements.specs.Nesting.{start, is_outside, step}
use Rattle.iocm_values.specs.Words.{ended, ends_word, begun_by, words, words_from}
use Rattle.iocm_values.specs.ItemWords.{before_last, with_piece, lists_left, opens_list, item_words, item_words_from}

neither : (x y : Bool) → x || y ≡ false → (x ≡ false) × (y ≡ false)
neither true y e = absurd (true≢false e)
neither false y e = (refl, e)

no_one : (x : Bool) → cond x 1 0 ≤ 0 → x ≡ false
no_one true none = absurd (omega arith)
no_one false none = refl

module _ (kind : List ℕ → Bool) where
  abbrev one : List ℕ → ℕ
  one word = cond (kind word) 1 0

  -- a piece that is a word counts as one
  word_counts : (found : List (List ℕ)) (text : List ℕ) (more : List (List ℕ))
      → count_by kind (found ++ text ∷ []) + count_by kind more ≤ count_by kind found + count_by kind (text ∷ more)
  word_counts found text more =
      let last = sum_by_push one found text in
      let first = sum_by-cons one text more in
      omega (arith, last, first)

  piece_counts : (found : List (List ℕ)) (lists text : List ℕ) (more : List (List ℕ))
      → count_by kind (with_piece found lists text) + count_by kind more ≤ count_by kind found
      + count_by kind (ended text more)
  piece_counts found lists [] more = word_counts found [] more
  piece_counts found lists (b ∷ rest) more = by (b == 41) (length rest == 0) refl
    where
      by : (closes alone : Bool) → (b == 41) ≡ closes
          → count_by kind (cond closes (cond alone found (take (before_last lists) found)) (found ++ (b ∷ rest) ∷ []))
          + count_by kind more
          ≤ count_by kind found + count_by kind (cond (closes && bytes_eq rest []) more ((b ∷ rest) ∷ more))
      by true true e = let left = more_left (bytes_eq rest []) in omega (arith, left)
        where
          more_left : (c : Bool) → count_by kind more ≤ count_by kind (cond c more ((b ∷ rest) ∷ more))
          more_left true = omega arith
          more_left false = let first = sum_by-cons one (b ∷ rest) more in omega (arith, first)
      by true false e =
          let left = more_left (bytes_eq rest []) in
          let fewer = sum_by-take-le one found (before_last lists) in
          omega (arith, left, fewer)
        where
          more_left : (c : Bool) → count_by kind more ≤ count_by kind (cond c more ((b ∷ rest) ∷ more))
          more_left true = omega arith
          more_left false = let first = sum_by-cons one (b ∷ rest) more in omega (arith, first)
      by false alone e = word_counts found (b ∷ rest) more

  -- whichever way a byte is taken
  one_of : (ends opens : Bool) (n : ℕ) (p q : Nesting) (text begun rest : List ℕ) (b : ℕ) (found piece : List (List ℕ))
      (lists left more_lists : List ℕ)
      → count_by kind (item_words_from piece left start begun rest) ≤ n
      + count_by kind (ended text (words_from start begun rest))
      → count_by kind (item_words_from found more_lists p [] rest) ≤ n + count_by kind (words_from p [] rest)
      → count_by kind (item_words_from found lists q (text ++ b ∷ []) rest) ≤ n
      + count_by kind (words_from q (text ++ b ∷ []) rest)
      → count_by kind (item_words_from (cond ends piece found) (cond ends left (cond opens more_lists lists))
      (cond ends start (cond opens p q))
      (cond ends begun (cond opens [] (text ++ b ∷ []))) rest)
      ≤ n + count_by kind (cond ends (ended text (words_from start begun rest))
      (cond opens (words_from p [] rest) (words_from q (text ++ b ∷ []) rest)))
  one_of true opens n p q text begun rest b found piece lists left more_lists e f g = e
  one_of false true n p q text begun rest b found piece lists left more_lists e f g = f
  one_of false false n p q text begun rest b found piece lists left more_lists e f g = g

  pub fewer_from : (found : List (List ℕ)) (lists : List ℕ) (p : Nesting) (text rest : List ℕ)
      → count_by kind (item_words_from found lists p text rest) ≤ count_by kind found
      + count_by kind (words_from p text rest)
  unfolding words_from item_words_from
  fewer_from found lists p text [] = let last = piece_counts found lists text [] in omega (arith, last)
  fewer_from found lists p text (b ∷ rest) =
      let piece = piece_counts found lists text (words_from start (begun_by b) rest) in
      let later = fewer_from (with_piece found lists text) (lists_left lists text) start (begun_by b) rest in
      one_of (is_outside p && ends_word b) (opens_list p text b) (count_by kind found) p (unwrap_or (step p b) p) text
      (begun_by b) rest b
      found (with_piece found lists text) lists (lists_left lists text) (lists ++ length found ∷ [])
      (omega (arith, piece, later)) (fewer_from found (lists ++ length found ∷ []) p [] rest)
      (fewer_from found lists (unwrap_or (step p b) p) (text ++ b ∷ []) rest)

  -- there are no more of the kind among the words of items than among all words
  pub fewer_in_items : (text : List ℕ) → count_by kind (item_words text) ≤ count_by kind (words text)
  fewer_in_items text = let all = fewer_from [] [] start [] text in omega (arith, all)

  counted_none : (xs : List (List ℕ)) → list_any kind xs ≡ false → count_by kind xs ≡ 0
  counted_none [] none = refl
  counted_none (x ∷ xs) none =
      let parts = neither (kind x) (list_any kind xs) none in
      let first = sum_by-cons one x xs in
      let here : one x ≡ 0 = ap (λ b. cond b 1 0) parts.0 in
      let rest = counted_none xs parts.1 in
      omega (arith, first, here, rest)

  none_counted : (xs : List (List ℕ)) → count_by kind xs ≤ 0 → list_any kind xs ≡ false
  none_counted [] none = refl
  none_counted (x ∷ xs) none =
      let first = sum_by-cons one x xs in
      let here = no_one (kind x) (omega (arith, first)) in
      let rest = none_counted xs (omega (arith, first)) in
      λ i. here i || rest i

  -- where none of the words is of the kind, none of the items' words is
  pub none_in_items : (text : List ℕ) → list_any kind (words text) ≡ false → list_any kind (item_words text) ≡ false
  none_in_items text none =
      let fewer = fewer_in_items text in
      let no_word = counted_none (words text) none in
      none_counted (item_words text) (omega (arith, fewer, no_word))
