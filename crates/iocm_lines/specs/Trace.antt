-- The line of the trace of a script that was run.
use Rattle.std.specs.Prelude.{ℕ, [], ◌∷◌, codes}
use Rattle.serde_json.specs.Data.{Data, string}
use Rattle.iocm_lines.specs.Members.{object_of, count}

-- how many calls it has
abbrev pub trace_value : ℕ → Data
trace_value calls = object_of ((codes "calls", count calls) ∷ (codes "type", string (codes "trace")) ∷ [])
