-- The answers to lines, out of the trace.
use Rattle.std.specs.Prelude.{◌≡◌, ℕ, List, [], ◌∷◌, ◌++◌, Option, None, Some}
use Rattle.std.specs.List.{flat_map, slice_get}
use Rattle.iocm_core.specs.declared.trace.Entry.{Entry}
use Rattle.iocm_operation.specs.declared.answered.Answered.{Answered}
use Rattle.iocm_operation.specs.declared.placed.Placed.{Placed}

-- the answer of an entry, if there is one
abbrev pub given : ℕ → Option Entry → List Answered
given line None = []
given line (Some e) = record { line = line; answer = e.answer } ∷ []

-- the answers to lines, each that of the entry at the line's place in the trace
abbrev pub answers_at : List Entry → List Placed → List Answered
answers_at es places = flat_map (λ (k : Placed). given k.line (slice_get es k.number)) places

-- the answers have one more, if there is an entry at the line's place
abbrev pub AddsAnswer : List Entry → Placed → List Answered → List Answered → Type 0
AddsAnswer es k old new = (rest : List Placed) → old ++ answers_at es (k ∷ rest) ≡ new ++ answers_at es rest
