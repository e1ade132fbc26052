-- The words of a script's line.
use Rattle.std.specs.Prelude.{ℕ, ◌==◌, Bool, not, List, length, slice_index, filter}
use Rattle.std.specs.List.{slice_split}

-- a blank
abbrev pub is_blank : ℕ → Bool
is_blank b = b == 32

-- no byte at all
abbrev pub is_empty : List ℕ → Bool
is_empty text = length text == 0

-- the words of a line: what stands between its blanks, and isn't empty
abbrev pub words_of : List ℕ → List (List ℕ)
words_of line = filter (λ piece. not (is_empty piece)) (slice_split is_blank line)

-- a comment, which has an asterisk in column 1
abbrev pub is_comment : List ℕ → Bool
is_comment line = slice_index line 0 == 42
