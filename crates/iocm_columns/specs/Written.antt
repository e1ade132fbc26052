-- How statements are written: name, operation and operand part in their columns, and what passes
-- column 71 in continuations. IOCP User's Guide, on coding the statements. Bytes by their codes: 88
-- is X, 10 ends a line, 32 is a blank.
use Rattle.std.specs.Prelude.{◌≡◌, ◌≢◌, ◌≤◌, ◌<◌, ℕ, ◌+◌, ◌-◌, ◌==◌, max, Bool, not}
use Rattle.std.specs.Prelude.{◌&&◌, false, IsTrue, if◌then◌else◌, List, [], ◌∷◌}
use Rattle.std.specs.Prelude.{◌++◌, length, map, replicate, slice_index, Ok}
use Rattle.std.specs.List.{flat_map, list_all}
use Rattle.iocm_columns.specs.declared.joined.Joined.{Joined}
use Rattle.iocm_columns.specs.Cards.{is_printable}
use Rattle.iocm_columns.specs.Columns.{is_blank}
use Rattle.iocm_columns.specs.Part.{is_quoting}
use Rattle.iocm_columns.specs.Statements.{joined_of}

-- the end of a line that is continued, X in column 72, and the blank columns 1 to 15 of the next
-- one
abbrev pub cut : List ℕ
cut = 88 ∷ 10 ∷ replicate 15 32

-- a byte as it stands at a column: column 72 is cut, and the byte stands in column 16 of the next
-- line
abbrev pub placed : ℕ → ℕ → List ℕ
placed column b = if column == 72 then cut ++ b ∷ [] else b ∷ []

-- the column behind it
abbrev pub column_behind : ℕ → ℕ
column_behind column = if column == 72 then 17 else column + 1

-- a text from a column on
unfoldable pub cut_from : ℕ → List ℕ → List ℕ
cut_from column [] = []
cut_from column (b ∷ bs) = placed column b ++ cut_from (column_behind column) bs

-- a name from column 1 on, and the blanks behind it: the operation begins in column 10, or behind
-- one blank if the name is longer
abbrev pub name_columns : List ℕ → List ℕ
name_columns name = name ++ replicate (max 1 (9 - length name)) 32

-- the operand part behind one blank, if there is one
abbrev pub part_columns : List ℕ → List ℕ
part_columns [] = []
part_columns (b ∷ bs) = 32 ∷ b ∷ bs

-- the whole statement, as it would stand in one line of any length
abbrev pub statement_columns : Joined → List ℕ
statement_columns joined = name_columns joined.name ++ (joined.operation ++ part_columns joined.text)

-- the lines of a statement
abbrev pub statement_lines : Joined → List ℕ
statement_lines joined = cut_from 1 (statement_columns joined) ++ 10 ∷ []

-- the bytes of a deck of these statements
abbrev pub deck_bytes : List Joined → List ℕ
deck_bytes deck = flat_map statement_lines deck

-- ---- what is written is read again

-- a byte of printable ASCII that is no blank
abbrev pub is_graphic : ℕ → Bool
is_graphic b = is_printable b && not (is_blank b)

-- a statement that can be written: its name and its operation are words of at most 8 bytes, the
-- name doesn't begin as a comment does, and blanks stand in the operand part inside quotes alone,
-- which are closed
pub record IsWritable (joined : Joined) : Type 0 where
  pub name : IsTrue (list_all is_graphic joined.name)
  pub short_name : length joined.name ≤ 8
  pub no_comment : slice_index joined.name 0 ≢ 42
  pub operation : IsTrue (list_all is_graphic joined.operation)
  pub short_operation : length joined.operation ≤ 8
  pub has_operation : 0 < length joined.operation
  pub text : IsTrue (list_all is_printable joined.text)
  pub blanks : (before after : List ℕ) → joined.text ≡ before ++ 32 ∷ after → IsTrue (is_quoting before)
  pub closed : is_quoting joined.text ≡ false

-- a statement without the number of its line
abbrev pub without_line : Joined → Joined
without_line joined = record { line = 0; name = joined.name; operation = joined.operation; text = joined.text }

-- what is read of a deck's bytes: the same statements, but for the numbers of their lines
pub record IsReadAgain (deck : List Joined) : Type 0 where
  pub read : List Joined
  pub is_read : joined_of (deck_bytes deck) ≡ Ok read
  pub same : map without_line read ≡ map without_line deck
