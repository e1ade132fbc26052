-- The columns of a line.
use Rattle.std.specs.Prelude.{ℕ, ◌-◌, ◌==◌, Bool, not, ◌||◌, List, ◌++◌, length}
use Rattle.std.specs.Prelude.{take, drop, replicate, slice_index, slice_range}
use Rattle.std.specs.List.{list_all, position_or_len}

-- a blank column
abbrev pub is_blank : ℕ → Bool
is_blank b = b == 32

-- columns 1 to 72 of a line; a short line is padded with blanks, and columns 73 to 80 are dropped
abbrev pub columns_of : List ℕ → List ℕ
columns_of bytes = take 72 bytes ++ replicate (72 - length bytes) 32

-- column 72 is nonblank: the next card continues this one
abbrev pub is_continued : List ℕ → Bool
is_continued columns = not (is_blank (slice_index columns 71))

-- columns 1 to 15 are blank, as those of a continuation must be
abbrev pub has_margin : List ℕ → Bool
has_margin columns = list_all is_blank (take 15 columns)

-- a comment, which has an asterisk in column 1, or a line that is blank in columns 1 to 72
abbrev pub is_skipped : List ℕ → Bool
is_skipped columns = (slice_index columns 0 == 42) || list_all is_blank columns

-- columns 1 to 71, where a statement stands
abbrev pub statement_area : List ℕ → List ℕ
statement_area columns = take 71 columns

-- columns 16 to 71, where a continuation stands
abbrev pub continuation_area : List ℕ → List ℕ
continuation_area columns = slice_range columns 15 71

-- the word that some columns begin with, up to the first blank
abbrev pub word_of : List ℕ → List ℕ
word_of columns = take (position_or_len is_blank columns) columns

-- the columns behind the word that they begin with
abbrev pub after_word : List ℕ → List ℕ
after_word columns = drop (position_or_len is_blank columns) columns

-- the columns from the first nonblank on
abbrev pub after_blanks : List ℕ → List ℕ
after_blanks columns = drop (position_or_len (λ b. not (is_blank b)) columns) columns

-- the name of a statement, from column 1 to the first blank
abbrev pub name_of : List ℕ → List ℕ
name_of columns = word_of (statement_area columns)

-- the columns of a statement behind its name
abbrev pub behind_name : List ℕ → List ℕ
behind_name columns = after_blanks (after_word (statement_area columns))

-- the operation of a statement, the word behind its name
abbrev pub operation_of : List ℕ → List ℕ
operation_of columns = word_of (behind_name columns)

-- the columns of a statement from the first nonblank behind its operation on
abbrev pub behind_operation : List ℕ → List ℕ
behind_operation columns = after_blanks (after_word (behind_name columns))
