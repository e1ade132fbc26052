-- A table of words is read again: the words of its lines are its headings and its cells.
-- Bytes by their codes: 10 is a line feed, 32 is a blank.
use Rattle.std.specs.Prelude.{◌≡◌, ℕ, ◌<◌, ◌==◌, ◌&&◌, not, Bool, true, List, map, filter, length}
use Rattle.std.specs.List.{list_all, slice_split}
use Rattle.iocm_words.specs.Table.{TableColumn, lines, table_text}

-- what stands between bytes of this code, and isn't empty
abbrev pub parts_at : ℕ → List ℕ → List (List ℕ)
parts_at byte text = filter (λ part. not (length part == 0)) (slice_split (λ b. b == byte) text)

abbrev pub lines_of : List ℕ → List (List ℕ)
lines_of text = parts_at 10 text

abbrev pub words_of : List ℕ → List (List ℕ)
words_of line = parts_at 32 line

-- a word isn't empty, and has neither a blank nor a line feed
abbrev pub is_inside : ℕ → Bool
is_inside b = not (b == 32) && not (b == 10)

abbrev pub is_word : List ℕ → Bool
is_word text = not (length text == 0) && list_all is_inside text

-- a row of words, one for each column
abbrev pub is_row : List TableColumn → List (List ℕ) → Bool
is_row columns row = (length row == length columns) && list_all is_word row

-- a table of words has columns, and each of its lines is such a row
pub record IsOfWords (columns : List TableColumn) (rows : List (List (List ℕ))) : Type 0 where
  pub columns_there : 0 < length columns
  pub words : list_all (is_row columns) (lines columns rows) ≡ true

-- the words of its lines are its headings and its cells
abbrev pub TablesAreReadAgain : Type 0
TablesAreReadAgain = (columns : List TableColumn) (rows : List (List (List ℕ))) → IsOfWords columns rows
    → map words_of (lines_of (table_text columns rows)) ≡ lines columns rows

-- so there is a line for the heading and for each row, with a word for each column
abbrev pub LinesHaveTheWordsOfTheHeading : Type 0
LinesHaveTheWordsOfTheHeading = (columns : List TableColumn) (rows : List (List (List ℕ))) → IsOfWords columns rows
    → map (λ line. length (words_of line)) (lines_of (table_text columns rows))
    ≡ map (λ line. length columns) (lines columns rows)
