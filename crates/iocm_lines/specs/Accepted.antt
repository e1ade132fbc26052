-- The line of a deck that keeps the rules.
use Rattle.std.specs.Prelude.{ℕ, [], ◌∷◌, codes}
use Rattle.serde_json.specs.Data.{Data, string}
use Rattle.iocm_lines.specs.Members.{object_of, count}

-- how many records it has
abbrev pub accepted_value : ℕ → Data
accepted_value records = object_of ((codes "records", count records) ∷ (codes "type", string (codes "accepted")) ∷ [])
