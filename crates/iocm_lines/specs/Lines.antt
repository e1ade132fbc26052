-- The line of a value.
-- Bytes by their codes: 10 is a line feed, 44 is a comma, 58 is a colon, 123 and 125 are braces.
use Rattle.std.specs.Prelude.{ℕ, List, [], ◌∷◌, ◌++◌, Option}
use Rattle.std.specs.List.{flat_map}
use Rattle.json.specs.Print.{quoted}
use Rattle.serde_json.specs.Data.{Data}
use Rattle.serde_json.specs.Written.{compact_text}
use Rattle.iocm_lines.specs.Members.{if_there}

-- its text, with a line feed
abbrev pub line : Data → List ℕ
line value = compact_text value ++ 10 ∷ []

-- ---- how a line is put together

-- a member that has more after it
abbrev pub with_comma : List ℕ × Data → List ℕ
with_comma (name, value) = quoted name ++ 58 ∷ (compact_text value ++ 44 ∷ [])

-- a member that may be there
abbrev pub with_comma_if_there : List ℕ → Option Data → List ℕ
with_comma_if_there name value = flat_map with_comma (if_there name value [])
