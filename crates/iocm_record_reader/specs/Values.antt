-- The values of a statement's known operands, each under its keyword.
use Rattle.std.specs.Prelude.{ℕ, Option, None, Some, List, map, filter, Result, Ok}
use Rattle.iocm_types.specs.declared.fault.Fault.{Fault}
use Rattle.iocm_types.specs.Fault.{◌>>=◌, or_fault}
use Rattle.iocm_statements.specs.declared.operation.Operation.{Operation}
use Rattle.iocm_statements.specs.declared.operands.OperandKey.TheVariants.{Keyword, Bare}
use Rattle.iocm_statements.specs.Operands.{Operand, text_under}
use Rattle.iocm_model.specs.Machine.Record.{CarriedOperand}
use Rattle.iocm_keywords.specs.Known.{is_carried}
use Rattle.iocm_values.specs.Value.{Value, value}

-- what a text says, read as a value; a malformed one is the fault
abbrev pub read_as : {A : Type 0} → Fault → (Value → Option A) → List ℕ → Result A Fault
read_as fault read text = or_fault fault (read (value text))

-- what the operand of a keyword says; it is required
abbrev pub required : {A : Type 0} → Fault → (Value → Option A) → List ℕ → List Operand → Result A Fault
required fault read keyword operands = or_fault fault (text_under keyword operands) >>= read_as fault read

abbrev pub read_if_there : {A : Type 0} → Fault → (Value → Option A) → A → Option (List ℕ) → Result A Fault
read_if_there fault read absent (Some text) = read_as fault read text
read_if_there fault read absent None = Ok absent

-- what it says, or what counts where it isn't there
abbrev pub optional : {A : Type 0} → Fault → (Value → Option A) → A → List ℕ → List Operand → Result A Fault
optional fault read absent keyword operands = read_if_there fault read absent (text_under keyword operands)

-- an operand as a record carries it
abbrev pub as_carried : Operand → CarriedOperand
as_carried ((Keyword keyword), text) = record { keyword = Some keyword; text = text }
as_carried ((Bare place), text) = record { keyword = None; text = text }

-- the operands that a statement doesn't know, in their order
abbrev pub carried_by : Operation → List Operand → List CarriedOperand
carried_by operation operands = map as_carried (filter (is_carried operation) operands)
