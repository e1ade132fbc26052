-- A statement of the canonical deck: its operation, and its operands in the order in which they are
-- written. IOCP User's Guide, the statements; the canonical forms and their order are own.
use Rattle.std.specs.Prelude.{ℕ, ◌==◌, if◌then◌else◌, Option, None, Some, List, [], ◌∷◌, length}
use Rattle.iocm_statements.specs.declared.operation.Operation.{Operation}
use Rattle.iocm_model.specs.Machine.Record.{CarriedOperand}

pub record Statement : Type 0 where
  pub operation : Operation
  pub operands : List CarriedOperand

-- an operand with its keyword
abbrev pub keyed : List ℕ → List ℕ → CarriedOperand
keyed keyword text = record { keyword = Some keyword; text = text }

-- the same, if it has a value
abbrev pub valued : List ℕ → Option (List ℕ) → List CarriedOperand
valued keyword None = []
valued keyword (Some text) = keyed keyword text ∷ []

-- a word alone
abbrev pub alone : List ℕ → CarriedOperand
alone word = record { keyword = None; text = word }

-- the text of a list of items, which is left out where there are none
abbrev pub if_any : {A : Type 0} → List A → List ℕ → Option (List ℕ)
if_any items text = if length items == 0 then None else Some text
