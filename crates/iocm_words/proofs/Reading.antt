-- The words of a table's lines are its headings and its cells.
use Rattle.std.proofs.Common.{◌≡◌, ℕ, zero, suc, ◌-◌, ◌<◌, if◌then◌else◌, ◌==◌, ◌&&◌, not, Bool, true, false, List}
use Rattle.std.proofs.Common.{[], ◌∷◌, ◌++◌, length, map, replicate, refl, sym, ap, ap₂, ◌∙◌, arith, append_assoc}
use Rattle.std.specs.List.{flat_map, list_all}
use Rattle.std.proofs.Math.Dec.{eqb-suc-zero}
use Rattle.std.proofs.lemmas.Bool.{and_parts, eqb-true}
use Rattle.std.proofs.lemmas.List.Folds.{list_all-append}
use Rattle.iocm_words.specs.declared.table.Measure.{Measure}
use Rattle.iocm_words.specs.declared.table.Side.{Side}
use Rattle.iocm_words.specs.declared.table.Side.TheVariants.{Left, Right}
use Rattle.iocm_words.specs.Again.{lines_of, words_of, is_word, TablesAreReadAgain, LinesHaveTheWordsOfTheHeading}
use Rattle.iocm_words.specs.Table.{TableColumn, measures, other_cells, on_side, filled, cells_text}
use Rattle.iocm_words.specs.Table.{without_blanks_behind, line_text, lines, table_text}
use Rattle.iocm_words.proofs.Wording.{Word, word_is, no_blank, no_feed}
use Rattle.iocm_words.proofs.Parts.{part-first, parts-behind, parts-behind_all, parts-before_all, part-before_all}

abbrev is_blank : ℕ → Bool
is_blank b = b == 32

abbrev is_feed : ℕ → Bool
is_feed b = b == 10

abbrev is_no_feed : ℕ → Bool
is_no_feed b = not (b == 10)

-- ---- the cells of a row

-- a cell on either side of blanks, with two blanks behind it
cell_first : (side : Side) (cell : List ℕ) (n : ℕ) (rest : List ℕ) → Word cell
    → words_of (on_side side cell (replicate n 32) ++ (32 ∷ 32 ∷ rest)) ≡ cell ∷ words_of rest
cell_first Left cell n rest word =
    ap words_of (append_assoc cell (replicate n 32) (32 ∷ 32 ∷ rest))
    ∙ part-before_all is_blank n 32 cell (32 ∷ rest) (no_blank cell word.inside) word.some refl
    ∙ ap (λ r. cell ∷ r) (parts-behind is_blank 32 rest refl)
cell_first Right cell n rest word =
    ap words_of (append_assoc (replicate n 32) cell (32 ∷ 32 ∷ rest))
    ∙ parts-behind_all is_blank n 32 (cell ++ (32 ∷ 32 ∷ rest)) refl
    ∙ part-first is_blank cell 32 (32 ∷ rest) (no_blank cell word.inside) word.some refl
    ∙ ap (λ r. cell ∷ r) (parts-behind is_blank 32 rest refl)

cells_again : (ms : List Measure) (cells : List (List ℕ)) → length cells ≡ length ms → list_all is_word cells ≡ true
    → words_of (cells_text ms cells) ≡ cells
cells_again [] [] long words = refl
cells_again [] (cell ∷ cells) long words = absurd (omega (arith, long))
cells_again (m ∷ ms) [] long words = absurd (omega (arith, long))
cells_again (m ∷ ms) (cell ∷ cells) long words =
    let both = and_parts (is_word cell) (list_all is_word cells) words in
    cell_first m.side cell (m.width - length cell) (cells_text ms cells) (word_is cell both.0)
    ∙ ap (λ r. cell ∷ r) (cells_again ms cells (omega (arith, long)) both.1)

-- ---- blanks at the end

-- a text is what is left of it, and blanks
blanks_behind : (xs : List ℕ) → (n : ℕ) × (xs ≡ without_blanks_behind xs ++ replicate n 32)
blanks_behind [] = (0, refl)
blanks_behind (b ∷ xs) = by (b == 32) (without_blanks_behind xs) (eqb-true b 32) (blanks_behind xs)
  where
    by : (blank : Bool) (left : List ℕ) → (blank ≡ true → b ≡ 32) → ((n : ℕ) × (xs ≡ left ++ replicate n 32))
        → (n : ℕ) × (b ∷ xs ≡ (if blank && (length left == 0) then [] else b ∷ left) ++ replicate n 32)
    by true [] is (n, e) = (suc n, ap₂ (λ (c : ℕ) (cs : List ℕ). c ∷ cs) (is refl) e)
    by true (x ∷ left) is (n, e) = (n, rw (eqb-suc-zero (length left)) (ap (λ cs. b ∷ cs) e))
    by false left is (n, e) = (n, ap (λ cs. b ∷ cs) e)

words_left : (xs : List ℕ) → words_of (without_blanks_behind xs) ≡ words_of xs
words_left xs =
    let left = blanks_behind xs in
    sym (parts-before_all is_blank left.0 32 (without_blanks_behind xs) refl) ∙ ap words_of (sym left.1)

all_left : (p : ℕ → Bool) (xs : List ℕ) → list_all p xs ≡ true → list_all p (without_blanks_behind xs) ≡ true
all_left p xs all =
    let left = blanks_behind xs in
    (and_parts (list_all p (without_blanks_behind xs)) (list_all p (replicate left.0 32))
    (sym (list_all-append p (without_blanks_behind xs) (replicate left.0 32)) ∙ ap (list_all p) (sym left.1) ∙ all)).0

-- ---- line feeds

both_all : (p : ℕ → Bool) (xs ys : List ℕ) → list_all p xs ≡ true → list_all p ys ≡ true → list_all p (xs ++ ys) ≡ true
both_all p xs ys first second = list_all-append p xs ys ∙ rw (first, second) refl

no_feed_in_blanks : (n : ℕ) → list_all is_no_feed (replicate n 32) ≡ true
no_feed_in_blanks zero = refl
no_feed_in_blanks (suc n) = no_feed_in_blanks n

no_feed_in_cell : (side : Side) (cell : List ℕ) (n : ℕ) → list_all is_no_feed cell ≡ true
    → list_all is_no_feed (on_side side cell (replicate n 32)) ≡ true
no_feed_in_cell Left cell n none = both_all is_no_feed cell (replicate n 32) none (no_feed_in_blanks n)
no_feed_in_cell Right cell n none = both_all is_no_feed (replicate n 32) cell (no_feed_in_blanks n) none

no_feed_in_cells : (ms : List Measure) (cells : List (List ℕ)) → length cells ≡ length ms
    → list_all is_word cells ≡ true → list_all is_no_feed (cells_text ms cells) ≡ true
no_feed_in_cells [] [] long words = refl
no_feed_in_cells [] (cell ∷ cells) long words = absurd (omega (arith, long))
no_feed_in_cells (m ∷ ms) [] long words = absurd (omega (arith, long))
no_feed_in_cells (m ∷ ms) (cell ∷ cells) long words =
    let both = and_parts (is_word cell) (list_all is_word cells) words in
    both_all is_no_feed (filled m cell) (32 ∷ 32 ∷ cells_text ms cells)
    (no_feed_in_cell m.side cell (m.width - length cell) (no_feed cell (word_is cell both.0).inside))
    (no_feed_in_cells ms cells (omega (arith, long)) both.1)

-- ---- lines

bytes_there : (text : List ℕ) (words : List (List ℕ)) → words_of text ≡ words → 0 < length words
    → length text == 0 ≡ false
bytes_there [] words e some = absurd (omega (arith, some, ap length e))
bytes_there (b ∷ text) words e some = eqb-suc-zero (length text)

-- rows of words, one for each of so many columns
abbrev is_row_of : ℕ → List (List ℕ) → Bool
is_row_of n row = (length row == n) && list_all is_word row

lines_again : (ms : List Measure) (rows : List (List (List ℕ))) → 0 < length ms
    → list_all (is_row_of (length ms)) rows ≡ true
    → map words_of (lines_of (flat_map (line_text ms) rows)) ≡ rows
lines_again ms [] some words = refl
lines_again ms (row ∷ rows) some words =
    let both = and_parts (is_row_of (length ms) row) (list_all (is_row_of (length ms)) rows) words in
    let parts = and_parts (length row == length ms) (list_all is_word row) both.0 in
    let long = eqb-true (length row) (length ms) parts.0 in
    let line : List ℕ = without_blanks_behind (cells_text ms row) in
    let rest : List ℕ = flat_map (line_text ms) rows in
    let again : words_of line ≡ row = words_left (cells_text ms row) ∙ cells_again ms row long parts.1 in
    let whole : list_all is_no_feed line ≡ true =
    all_left is_no_feed (cells_text ms row) (no_feed_in_cells ms row long parts.1) in
    ap (λ t. map words_of (lines_of t)) (append_assoc line (10 ∷ []) rest)
    ∙ ap (map words_of) (part-first is_feed line 10 rest whole
    (bytes_there line row again (omega (arith, some, long))) refl)
    ∙ ap₂ (λ (x : List (List ℕ)) (xs : List (List (List ℕ))). x ∷ xs) again (lines_again ms rows some both.1)

-- ---- tables

as_many : (columns : List TableColumn) (all : List (List (List ℕ))) → length (measures columns all) ≡ length columns
as_many [] all = refl
as_many (column ∷ columns) all = ap suc (as_many columns (map other_cells all))

pub tables_again : TablesAreReadAgain
tables_again columns rows is =
    let all = lines columns rows in
    let many = as_many columns all in
    lines_again (measures columns all) all (omega (arith, is.columns_there, many))
    (ap (λ n. list_all (is_row_of n) all) many ∙ is.words)

as_long : (n : ℕ) (rows : List (List (List ℕ))) → list_all (is_row_of n) rows ≡ true
    → map length rows ≡ map (λ row. n) rows
as_long n [] words = refl
as_long n (row ∷ rows) words =
    let both = and_parts (is_row_of n row) (list_all (is_row_of n) rows) words in
    let parts = and_parts (length row == n) (list_all is_word row) both.0 in
    ap₂ (λ (x : ℕ) (xs : List ℕ). x ∷ xs) (eqb-true (length row) n parts.0) (as_long n rows both.1)

map_twice : (xs : List (List ℕ)) → map (λ line. length (words_of line)) xs ≡ map length (map words_of xs)
map_twice [] = refl
map_twice (x ∷ xs) = ap (λ r. length (words_of x) ∷ r) (map_twice xs)

pub words_of_the_heading : LinesHaveTheWordsOfTheHeading
words_of_the_heading columns rows is =
    map_twice (lines_of (table_text columns rows)) ∙ ap (map length) (tables_again columns rows is)
    ∙ as_long (length columns) (lines columns rows) is.words
