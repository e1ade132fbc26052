-- What the text of an operand says, as a relation between the text and the operand.
use Rattle.std.specs.Prelude.{◌≡◌, ◌≢◌, ℕ, true, List, [], ◌∷◌, ◌++◌, Some, Ok}
use Rattle.iocm_types.specs.declared.fault.Fault.{Fault}
use Rattle.iocm_statements.specs.declared.operands.OperandKey.TheVariants.{Keyword, Bare}
use Rattle.iocm_statements.specs.Nesting.{start}
use Rattle.iocm_statements.specs.Cutting.{nesting_behind}
use Rattle.iocm_statements.specs.Operands.{Operand, is_keyword, operand_of}

-- no equal sign stands outside parentheses and quotes
abbrev pub HasNoEquals : List ℕ → Type 0
HasNoEquals text = (a b : List ℕ) → text ≡ a ++ 61 ∷ b → nesting_behind start a ≢ Some start

-- the text at this place is a keyword, an equal sign and the value; or it is not empty, has no
-- equal sign, and is all of a bare text
abbrev pub Says : ℕ → List ℕ → Operand → Type 0
Says place text ((Keyword keyword), value) = (is_keyword keyword ≡ true) × (text ≡ keyword ++ 61 ∷ value)
Says place text ((Bare at), word) = (at ≡ place) × (word ≡ text) × (text ≢ []) × HasNoEquals text

-- an operand that is found is what the text says
abbrev pub FindsOperand : Type 0
FindsOperand = (fault : Fault) (place : ℕ) (text : List ℕ) (operand : Operand)
    → operand_of fault place text ≡ Ok operand → Says place text operand

-- whatever else is what the text says is found
abbrev pub FindsNoOtherOperand : Type 0
FindsNoOtherOperand = (fault : Fault) (place : ℕ) (text : List ℕ) (operand : Operand)
    → Says place text operand → operand_of fault place text ≡ Ok operand
