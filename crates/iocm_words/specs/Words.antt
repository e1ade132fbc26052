-- The words of a table's cells.
-- Bytes by their codes: 32 is a blank, 44 a comma, 46 a point, 95 an underline.
use Rattle.std.specs.Prelude.{ℕ, nat_le, nat_lt, ◌==◌, ◌%◌, ◌&&◌, if◌then◌else◌, Option, List, [], ◌∷◌, ◌++◌, map}
use Rattle.std.specs.Prelude.{length, codes}
use Rattle.std.specs.List.{join_with_byte}
use Rattle.std.specs.Option.{option_map_or}
use Rattle.iocm_types.specs.Print.{hex1, hex2}

-- the word for nothing
abbrev pub nothing : List ℕ
nothing = codes "-"

-- an underline stands for a blank, and for what is below it, which no deck has
abbrev pub underlined : ℕ → ℕ
underlined b = if nat_le b 32 then 95 else b

-- a text as a word
abbrev pub word_of : List ℕ → List ℕ
word_of text = if length text == 0 then nothing else map underlined text

-- a text that a statement carries, if it is there
abbrev pub carried_word : Option (List ℕ) → List ℕ
carried_word text = option_map_or word_of text nothing

-- words with a byte between them
abbrev pub joined_word : ℕ → List (List ℕ) → List ℕ
joined_word byte words = if length words == 0 then nothing else join_with_byte byte words

-- words with commas between them
abbrev pub comma_word : List (List ℕ) → List ℕ
comma_word words = joined_word 44 words

-- digits in groups of three, with a comma before each group but the first: 4,352
abbrev pub comma_before : ℕ → List ℕ
comma_before left = if nat_lt 0 left && left % 3 == 0 then 44 ∷ [] else []

abbrev pub grouped : List ℕ → List ℕ
grouped [] = []
grouped (digit ∷ digits) = (digit ∷ comma_before (length digits)) ++ grouped digits

-- a channel path with its channel subsystem: 0.40
abbrev pub path_word : ℕ → ℕ → List ℕ
path_word css path = hex1 css ++ (46 ∷ hex2 path)
