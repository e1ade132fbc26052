-- The columns of a line that is written: 71 columns, and X or a blank in column 72.
use Rattle.std.proofs.Common.{◌≡◌, ◌∙◌, ◌+◌, ◌-◌, ◌++◌, ℕ, zero, suc, Bool, true, false, not, ◌&&◌, List, [], ◌∷◌}
use Rattle.std.proofs.Common.{length, get_or, take, drop, replicate, refl, ap, sym, arith, append_assoc, append-nil}
use Rattle.std.proofs.Common.{one-add, take_all}
use Rattle.std.specs.List.{list_all, position_or_len, slice_index}
use Rattle.std.proofs.lemmas.Bool.{and_parts, not-true}
use Rattle.std.proofs.lemmas.List.{length-append, length-replicate}
use Rattle.std.proofs.lemmas.List.Folds.{list_all-append}
use Rattle.std.proofs.Math.Seq.{get_or-append_seam, take-append_seam, drop-append_seam}
use Rattle.iocm_columns.specs.Columns.{after_blanks, after_word, columns_of, continuation_area, is_blank}
use Rattle.iocm_columns.specs.Columns.{statement_area, word_of}
use Rattle.iocm_columns.specs.Written.{is_graphic}
use Rattle.iocm_columns.specs.Cards.{is_printable}
use Rattle.iocm_columns.proofs.WrittenLines.{margin}

-- so many blanks
abbrev pub blanks : ℕ → List ℕ
blanks n = replicate n 32

pub blanks_len : (n : ℕ) → length (blanks n) ≡ n
blanks_len n = length-replicate {A = ℕ} n 32

blanks_end : (n : ℕ) → blanks n ++ 32 ∷ [] ≡ blanks (suc n)
blanks_end zero = refl
blanks_end (suc n) = ap (λ l. 32 ∷ l) (blanks_end n)

-- a line that is continued: all of its 72 columns
pub columns_of_whole : (area : List ℕ) → length area ≡ 71 → columns_of (area ++ 88 ∷ []) ≡ area ++ 88 ∷ []
columns_of_whole area len =
    let line = area ++ 88 ∷ [] in
    let all : length line ≡ 72 = omega (arith, length-append area (88 ∷ []), len) in
    let none : 72 - length line ≡ 0 = omega (arith, all) in
    ap (λ n. take 72 line ++ replicate n 32) none ∙ append-nil (take 72 line) ∙ take_all 72 line (omega (arith, all))

-- a line that isn't: blanks behind it
pub columns_of_short : (line : List ℕ) (n : ℕ) → length line + n ≡ 71 → columns_of line ≡ (line ++ blanks n) ++ 32 ∷ []
columns_of_short line n len =
    let left : 72 - length line ≡ suc n = omega (arith, len) in
    ap (λ l. l ++ replicate (72 - length line) 32) (take_all 72 line (omega (arith, len)))
    ∙ ap (λ m. line ++ replicate m 32) left ∙ ap (λ l. line ++ l) (sym (blanks_end n))
    ∙ sym (append_assoc line (blanks n) (32 ∷ []))

-- column 72
pub column_72 : (area : List ℕ) (b : ℕ) → length area ≡ 71 → slice_index (area ++ b ∷ []) 71 ≡ b
column_72 area b len = ap (λ n. get_or (area ++ b ∷ []) n 0) (sym len) ∙ get_or-append_seam area b [] 0

-- columns 1 to 71
pub columns_to_71 : (area : List ℕ) (b : ℕ) → length area ≡ 71 → statement_area (area ++ b ∷ []) ≡ area
columns_to_71 area b len = ap (λ n. take n (area ++ b ∷ [])) (sym len) ∙ take-append_seam area (b ∷ [])

-- columns 16 to 71
pub columns_from_16 : (area : List ℕ) (b : ℕ) → length area ≡ 56 → continuation_area ((margin ++ area) ++ b ∷ []) ≡ area
columns_from_16 area b len = ap (λ n. take n (area ++ b ∷ [])) (sym len) ∙ take-append_seam area (b ∷ [])

-- ---- words and blanks

pub graphic_is_no_blank : (b : ℕ) → is_graphic b ≡ true → is_blank b ≡ false
graphic_is_no_blank b is = not-true (is_blank b) (and_parts (is_printable b) (not (is_blank b)) is).1

word_len : (word rest : List ℕ) → list_all is_graphic word ≡ true
    → position_or_len is_blank (word ++ 32 ∷ rest) ≡ length word
word_len [] rest are = refl
word_len (b ∷ bs) rest are =
    let both = and_parts (is_graphic b) (list_all is_graphic bs) are in
    rw (graphic_is_no_blank b both.0) (ap (λ n. 1 + n) (word_len bs rest both.1) ∙ one-add (length bs))

pub word_first : (word rest : List ℕ) → list_all is_graphic word ≡ true → word_of (word ++ 32 ∷ rest) ≡ word
word_first word rest are =
    ap (λ n. take n (word ++ 32 ∷ rest)) (word_len word rest are) ∙ take-append_seam word (32 ∷ rest)

pub word_behind : (word rest : List ℕ) → list_all is_graphic word ≡ true → after_word (word ++ 32 ∷ rest) ≡ 32 ∷ rest
word_behind word rest are =
    ap (λ n. drop n (word ++ 32 ∷ rest)) (word_len word rest are) ∙ drop-append_seam word (32 ∷ rest)

pub blank_behind : (rest : List ℕ) → after_blanks (32 ∷ rest) ≡ after_blanks rest
blank_behind rest = ap (λ n. drop n (32 ∷ rest)) (one-add (position_or_len (λ b. not (is_blank b)) rest))

pub blanks_behind : (n : ℕ) (rest : List ℕ) → after_blanks (blanks n ++ rest) ≡ after_blanks rest
blanks_behind zero rest = refl
blanks_behind (suc n) rest = blank_behind (blanks n ++ rest) ∙ blanks_behind n rest

pub no_blank_before : (b : ℕ) (rest : List ℕ) → is_blank b ≡ false → after_blanks (b ∷ rest) ≡ b ∷ rest
no_blank_before b rest is = rw is refl

pub blanks_alone : (n : ℕ) → after_blanks (blanks n) ≡ []
blanks_alone zero = refl
blanks_alone (suc n) = blank_behind (blanks n) ∙ blanks_alone n

and_false : (e : Bool) → (e && false) ≡ false
and_false true = refl
and_false false = refl

-- what has a nonblank isn't blank, whatever is behind it
pub not_blank_with : (xs ys : List ℕ) → list_all is_blank xs ≡ false → list_all is_blank (xs ++ ys) ≡ false
not_blank_with xs ys is = rw (list_all-append is_blank xs ys, is) refl

-- nor before it
pub not_blank_behind : (xs ys : List ℕ) → list_all is_blank ys ≡ false → list_all is_blank (xs ++ ys) ≡ false
not_blank_behind [] ys is = is
not_blank_behind (x ∷ xs) ys is = rw (not_blank_behind xs ys is) (and_false (is_blank x))
