-- A text, cut at its commas outside parentheses and quotes.
use Rattle.std.specs.Prelude.{ℕ, List, [], ◌∷◌, ◌++◌, if◌then◌else◌, Option, None, Some}
use Rattle.std.specs.Option.{option_map, option_and_then}
use Rattle.iocm_statements.specs.declared.nesting.Nesting.{Nesting}
use Rattle.iocm_statements.specs.Nesting.{start, is_outside, step, cuts}

-- these bytes, in front of the first piece
abbrev pub onto_first : List ℕ → List (List ℕ) → List (List ℕ)
onto_first front [] = []
onto_first front (piece ∷ pieces) = (front ++ piece) ∷ pieces

-- the pieces of a text that begins at this nesting; none where parentheses do not match or a quote
-- does not end
unfoldable pub pieces_from : Nesting → List ℕ → Option (List (List ℕ))
pieces_from p [] = if is_outside p then Some ([] ∷ []) else None
pieces_from p (b ∷ bs) =
    if cuts p b then option_map (λ pieces. [] ∷ pieces) (pieces_from p bs)
    else option_and_then (λ q. option_map (onto_first (b ∷ [])) (pieces_from q bs)) (step p b)

-- the pieces of a text: at least one, and one more for each comma that cuts
abbrev pub pieces_of : List ℕ → Option (List (List ℕ))
pieces_of text = pieces_from start text
