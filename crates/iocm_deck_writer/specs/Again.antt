-- The operands of a written statement are read again: each under its key, in their order.
-- IOCP User's Guide, on coding the statements. Bytes by their codes: 44 is a comma.
use Rattle.std.specs.Prelude.{◌≡◌, ◌≢◌, ℕ, ◌+◌, Bool, true, false, Option, None, Some, List, [], ◌∷◌, All, map, Ok}
use Rattle.std.specs.List.{AllPairs, join_with_byte}
use Rattle.std.specs.Option.{option_map_or}
use Rattle.std.specs.Str.{bytes_eq}
use Rattle.iocm_model.specs.Machine.Record.{CarriedOperand}
use Rattle.iocm_statements.specs.declared.operands.OperandKey.{OperandKey}
use Rattle.iocm_statements.specs.declared.operands.OperandKey.TheVariants.{Keyword, Bare}
use Rattle.iocm_statements.specs.Cutting.{IsBalanced, IsUncut}
use Rattle.iocm_statements.specs.Operands.{Operand, is_keyword, operands_of}
use Rattle.iocm_statements.specs.Splitting.{HasNoEquals}
use Rattle.iocm_statements.specs.declared.operation.Operation.{Operation}
use Rattle.iocm_record_reader.specs.Values.{as_carried, carried_by}
use Rattle.iocm_deck_writer.specs.Canonical.{operand_text}

-- the key that an operand at this place of its statement stands under: its keyword, or the place
-- where it has none
abbrev pub key_at : ℕ → Option (List ℕ) → OperandKey
key_at place keyword = option_map_or (λ word. Keyword word) keyword (Bare place)

-- operands from this place of their statement on, each under its key
unfoldable pub placed : ℕ → List CarriedOperand → List Operand
placed place [] = []
placed place (o ∷ os) = (key_at place o.keyword, o.text) ∷ placed (place + 1) os

-- a keyword is one or more of A to Z and 0 to 9; a bare text isn't empty, and has no equal sign
-- outside parentheses and quotes
abbrev pub IsKeyed : Option (List ℕ) → List ℕ → Type 0
IsKeyed (Some keyword) text = is_keyword keyword ≡ true
IsKeyed None text = (text ≢ []) × HasNoEquals text

-- an operand that can stand in an operand part: besides its key, parentheses match and quotes end
-- in its text, and each comma of the text stands inside them
pub record IsPlaceable (o : CarriedOperand) : Type 0 where
  pub keyed : IsKeyed o.keyword o.text
  pub balanced : IsBalanced o.text
  pub uncut : IsUncut o.text

-- the later of two operands has the keyword of the earlier one
abbrev pub repeats : Option (List ℕ) → Option (List ℕ) → Bool
repeats (Some earlier) (Some later) = bytes_eq later earlier
repeats _ _ = false

-- no keyword stands twice
abbrev pub AreApart : List CarriedOperand → Type 0
AreApart operands = AllPairs (λ (a b : CarriedOperand). repeats a.keyword b.keyword ≡ false) operands

-- operands that can stand in one operand part: each can, and no keyword stands twice
pub record ArePlaceable (operands : List CarriedOperand) : Type 0 where
  pub each : All IsPlaceable operands
  pub apart : AreApart operands

-- the operand part of operands that can stand in it is read as these operands
abbrev pub ReadsOperandsAgain : Type 0
ReadsOperandsAgain = (line : ℕ) (operands : List CarriedOperand) → ArePlaceable operands
    → operands_of line (join_with_byte 44 (map operand_text operands)) ≡ Ok (placed 0 operands)

-- operands that are carried as they were read: they can stand in one operand part, each at its
-- place, and are written as the part
pub record AreGivenBy (text : List ℕ) (operands : List Operand) : Type 0 where
  pub placeable : ArePlaceable (map as_carried operands)
  pub in_place : placed 0 (map as_carried operands) ≡ operands
  pub written : join_with_byte 44 (map operand_text (map as_carried operands)) ≡ text

-- what is read of any operand part can be written, and is written as it was
abbrev pub WritesOperandsAgain : Type 0
WritesOperandsAgain = (line : ℕ) (text : List ℕ) (operands : List Operand) → operands_of line text ≡ Ok operands
    → AreGivenBy text operands

-- so can what a statement of any operation carries of it
abbrev pub WritesCarriedAgain : Type 0
WritesCarriedAgain = (line : ℕ) (text : List ℕ) (operands : List Operand) → operands_of line text ≡ Ok operands
    → (operation : Operation) → ArePlaceable (carried_by operation operands)
