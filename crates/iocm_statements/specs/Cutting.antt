-- What it is to cut a text at its commas, as a relation between the text and its pieces.
use Rattle.std.specs.Prelude.{◌≡◌, ◌≢◌, ℕ, Option, None, Some, List, [], ◌∷◌, ◌++◌, All}
use Rattle.std.specs.Option.{option_and_then}
use Rattle.std.specs.List.{join_with_byte}
use Rattle.iocm_statements.specs.declared.nesting.Nesting.{Nesting}
use Rattle.iocm_statements.specs.Nesting.{start, step}
use Rattle.iocm_statements.specs.Pieces.{pieces_of}

-- the nesting behind a text that begins at this nesting
abbrev pub nesting_behind : Nesting → List ℕ → Option Nesting
nesting_behind p [] = Some p
nesting_behind p (b ∷ bs) = option_and_then (λ q. nesting_behind q bs) (step p b)

-- parentheses match and quotes end
abbrev pub IsBalanced : List ℕ → Type 0
IsBalanced text = nesting_behind start text ≡ Some start

-- each comma of the piece stands inside parentheses or quotes
abbrev pub IsUncut : List ℕ → Type 0
IsUncut piece = (a b : List ℕ) → piece ≡ a ++ 44 ∷ b → nesting_behind start a ≢ Some start

-- there are pieces; joined by commas they are the text; each is balanced, and has no comma at which
-- to cut
pub record IsCutInto (text : List ℕ) (pieces : List (List ℕ)) : Type 0 where
  pub some : pieces ≢ []
  pub joined : join_with_byte 44 pieces ≡ text
  pub balanced : All IsBalanced pieces
  pub uncut : All IsUncut pieces

-- pieces that are found are pieces of the text
abbrev pub FindsPieces : Type 0
FindsPieces = (text : List ℕ) (pieces : List (List ℕ)) → pieces_of text ≡ Some pieces → IsCutInto text pieces

-- no other pieces than these are pieces of the text
abbrev pub FindsNoOthers : Type 0
FindsNoOthers = (text : List ℕ) (pieces : List (List ℕ)) → IsCutInto text pieces → pieces_of text ≡ Some pieces

-- a balanced text is cut
abbrev pub CutsBalanced : Type 0
CutsBalanced = (text : List ℕ) → pieces_of text ≡ None → ¬ IsBalanced text

-- no other text is cut
abbrev pub CutsNoOthers : Type 0
CutsNoOthers = (text : List ℕ) (pieces : List (List ℕ)) → pieces_of text ≡ Some pieces → IsBalanced text
