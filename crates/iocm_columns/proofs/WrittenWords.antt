-- Name and operation of a statement that is written, in the columns of its first card.
use Rattle.std.proofs.Common.{◌≡◌, ◌∙◌, ◌-◌, ◌<◌, ◌≤◌, ◌++◌, ℕ, zero, suc, max, true, false, not, List, [], ◌∷◌, length}
use Rattle.std.proofs.Common.{refl, ap, arith, append_assoc, eqb, slice_index}
use Rattle.std.specs.List.{list_all}
use Rattle.std.proofs.lemmas.Bool.{and_parts, ne_eqb}
use Rattle.std.proofs.lemmas.List.{length-append}
use Rattle.iocm_columns.specs.declared.joined.Joined.{Joined}
use Rattle.iocm_columns.specs.Cards.{is_printable}
use Rattle.iocm_columns.specs.Columns.{after_blanks, after_word, behind_name, behind_operation, is_blank, is_skipped}
use Rattle.iocm_columns.specs.Columns.{name_of, operation_of, statement_area, word_of}
use Rattle.iocm_columns.specs.Written.{IsWritable, is_graphic, name_columns}
use Rattle.iocm_columns.proofs.WrittenColumns.{blank_behind, blanks, blanks_behind, blanks_len, graphic_is_no_blank}
use Rattle.iocm_columns.proofs.WrittenColumns.{no_blank_before, not_blank_behind, not_blank_with, word_behind}
use Rattle.iocm_columns.proofs.WrittenColumns.{word_first}
use Rattle.iocm_columns.proofs.WrittenLines.{ArePrintable, both_printable}

-- how many blanks stand behind the name, less one
abbrev pub gap : Joined → ℕ
gap joined = 8 - length joined.name

-- the columns of a statement up to its operation
abbrev pub words : Joined → List ℕ
words joined = name_columns joined.name ++ joined.operation

gap_found : (joined : Joined) → IsWritable joined → max 1 (9 - length joined.name) ≡ suc (gap joined)
gap_found joined w = omega (arith, w.short_name)

-- the words, and what is behind them
pub words_behind : (joined : Joined) → IsWritable joined → (rest : List ℕ)
    → words joined ++ rest ≡ joined.name ++ (blanks (suc (gap joined)) ++ (joined.operation ++ rest))
words_behind joined w rest =
    append_assoc (name_columns joined.name) joined.operation rest
    ∙ append_assoc joined.name (blanks (max 1 (9 - length joined.name))) (joined.operation ++ rest)
    ∙ ap (λ n. joined.name ++ (blanks n ++ (joined.operation ++ rest))) (gap_found joined w)

-- they end by column 17
pub words_len : (joined : Joined) → IsWritable joined → length (words joined) ≤ 17
words_len joined w =
    let m = max 1 (9 - length joined.name) in
    omega (
      arith,
      w.short_name,
      w.short_operation,
      gap_found joined w,
      length-append (name_columns joined.name) joined.operation,
      length-append joined.name (blanks m),
      blanks_len m,
    )

graphic_is_printable : (word : List ℕ) → list_all is_graphic word ≡ true → ArePrintable word
graphic_is_printable [] are = refl
graphic_is_printable (b ∷ bs) are =
    let both = and_parts (is_graphic b) (list_all is_graphic bs) are in
    both_printable (b ∷ []) bs (rw (and_parts (is_printable b) (not (is_blank b)) both.0).0 refl)
    (graphic_is_printable bs both.1)

blanks_are_printable : (n : ℕ) → ArePrintable (blanks n)
blanks_are_printable zero = refl
blanks_are_printable (suc n) = blanks_are_printable n

pub words_are_printable : (joined : Joined) → IsWritable joined → ArePrintable (words joined)
words_are_printable joined w =
    let m = max 1 (9 - length joined.name) in
    both_printable (name_columns joined.name) joined.operation
    (both_printable joined.name (blanks m) (graphic_is_printable joined.name w.name) (blanks_are_printable m))
    (graphic_is_printable joined.operation w.operation)

-- ---- the words are found

begins_word : (word rest : List ℕ) → list_all is_graphic word ≡ true → 0 < length word
    → after_blanks (word ++ rest) ≡ word ++ rest
begins_word [] rest are some = absurd (omega (arith, some))
begins_word (b ∷ bs) rest are some =
    no_blank_before b (bs ++ rest) (graphic_is_no_blank b (and_parts (is_graphic b) (list_all is_graphic bs) are).0)

pub name_found : (joined : Joined) → IsWritable joined → (columns rest : List ℕ)
    → statement_area columns ≡ words joined ++ 32 ∷ rest → name_of columns ≡ joined.name
name_found joined w columns rest area =
    ap word_of (area ∙ words_behind joined w (32 ∷ rest))
    ∙ word_first joined.name (blanks (gap joined) ++ (joined.operation ++ 32 ∷ rest)) w.name

behind_name_found : (joined : Joined) → IsWritable joined → (columns rest : List ℕ)
    → statement_area columns ≡ words joined ++ 32 ∷ rest
    → behind_name columns ≡ joined.operation ++ 32 ∷ rest
behind_name_found joined w columns rest area =
    let behind = joined.operation ++ 32 ∷ rest in
    ap (λ l. after_blanks (after_word l)) (area ∙ words_behind joined w (32 ∷ rest))
    ∙ ap after_blanks (word_behind joined.name (blanks (gap joined) ++ behind) w.name)
    ∙ blanks_behind (suc (gap joined)) behind ∙ begins_word joined.operation (32 ∷ rest) w.operation w.has_operation

pub operation_found : (joined : Joined) → IsWritable joined → (columns rest : List ℕ)
    → statement_area columns ≡ words joined ++ 32 ∷ rest → operation_of columns ≡ joined.operation
operation_found joined w columns rest area =
    ap word_of (behind_name_found joined w columns rest area) ∙ word_first joined.operation rest w.operation

pub part_found : (joined : Joined) → IsWritable joined → (columns rest : List ℕ)
    → statement_area columns ≡ words joined ++ 32 ∷ rest → behind_operation columns ≡ after_blanks rest
part_found joined w columns rest area =
    ap (λ l. after_blanks (after_word l)) (behind_name_found joined w columns rest area)
    ∙ ap after_blanks (word_behind joined.operation rest w.operation) ∙ blank_behind rest

-- ---- a card with these words is not skipped

no_comment_in : (name rest : List ℕ) → (slice_index name 0 ≡ 42 → ⊥)
    → eqb (slice_index (name ++ 32 ∷ rest) 0) 42 ≡ false
no_comment_in [] rest other = refl
no_comment_in (b ∷ bs) rest other = ne_eqb b 42 other

word_not_blank : (word : List ℕ) → list_all is_graphic word ≡ true → 0 < length word → list_all is_blank word ≡ false
word_not_blank [] are some = absurd (omega (arith, some))
word_not_blank (b ∷ bs) are some =
    rw (graphic_is_no_blank b (and_parts (is_graphic b) (list_all is_graphic bs) are).0) refl

pub words_are_kept : (joined : Joined) → IsWritable joined → (columns rest : List ℕ) → columns ≡ words joined ++ rest
    → is_skipped columns ≡ false
words_are_kept joined w columns rest are =
    let comment : eqb (slice_index columns 0) 42 ≡ false =
    ap (λ l. eqb (slice_index l 0) 42) (are ∙ words_behind joined w rest)
    ∙ no_comment_in joined.name (blanks (gap joined) ++ (joined.operation ++ rest)) w.no_comment in
    let blank : list_all is_blank columns ≡ false =
    ap (list_all is_blank) are
    ∙ not_blank_with (words joined) rest
    (not_blank_behind (name_columns joined.name) joined.operation
    (word_not_blank joined.operation w.operation w.has_operation)) in
    rw (comment, blank) refl
