-- Operands: a keyword and its value, or a bare text; and a statement's operands in their order.
use Rattle.std.specs.Prelude.{ℕ, suc, ◌+◌, ◌==◌, ◌&&◌, ◌||◌, nat_eq, nat_le, Bool, false, not, if◌then◌else◌}
use Rattle.std.specs.Prelude.{Option, None, Some, List, [], ◌∷◌, length, take, drop, Result, Ok, Err}
use Rattle.std.specs.Option.{option_map, option_and_then}
use Rattle.std.specs.List.{list_all, list_any}
use Rattle.std.specs.Map.{lookup}
use Rattle.std.specs.Str.{bytes_eq}
use Rattle.iocm_types.specs.declared.fault.Fault.{Fault}
use Rattle.iocm_types.specs.declared.rule.Rule.TheVariants.{S2, S4, S6}
use Rattle.iocm_types.specs.Fault.{◌>>=◌, or_fault, at}
use Rattle.iocm_types.specs.Each.{each}
use Rattle.iocm_statements.specs.declared.nesting.Nesting.{Nesting}
use Rattle.iocm_statements.specs.declared.operands.OperandKey.{OperandKey}
use Rattle.iocm_statements.specs.declared.operands.OperandKey.TheVariants.{Keyword, Bare}
use Rattle.iocm_statements.specs.Nesting.{start, step, sets}
use Rattle.iocm_statements.specs.Pieces.{pieces_of}

-- one operand: its key and its text
abbrev pub Operand : Type 0
Operand = OperandKey × List ℕ

-- how many bytes stand before the first equal sign outside parentheses and quotes, if there is one
unfoldable pub equals_from : Nesting → List ℕ → Option ℕ
equals_from p [] = None
equals_from p (b ∷ bs) =
    if sets p b then Some 0
    else option_and_then (λ q. option_map suc (equals_from q bs)) (step p b)

-- A to Z and 0 to 9
abbrev pub is_keyword_byte : ℕ → Bool
is_keyword_byte b = (nat_le 65 b && nat_le b 90) || (nat_le 48 b && nat_le b 57)

-- one or more of A to Z and 0 to 9
abbrev pub is_keyword : List ℕ → Bool
is_keyword text = not (length text == 0) && list_all is_keyword_byte text

-- an operand with an equal sign behind so many bytes: a keyword and a value, which may be empty
abbrev pub keyword_operand : Fault → List ℕ → ℕ → Result Operand Fault
keyword_operand fault text n =
    if is_keyword (take n text) then Ok (Keyword (take n text), drop (n + 1) text) else Err fault

-- an operand with or without an equal sign
abbrev pub operand_split : Fault → ℕ → List ℕ → Option ℕ → Result Operand Fault
operand_split fault place text (Some n) = keyword_operand fault text n
operand_split fault place text None = Ok (Bare place, text)

-- what an operand at this place of its statement says; an empty one and one with a bad keyword are
-- refused
abbrev pub operand_of : Fault → ℕ → List ℕ → Result Operand Fault
operand_of fault place text =
    if length text == 0 then Err fault else operand_split fault place text (equals_from start text)

-- one keyword, or one place
abbrev pub same_key : OperandKey → OperandKey → Bool
same_key (Keyword a) (Keyword b) = bytes_eq a b
same_key (Bare i) (Bare j) = nat_eq i j
same_key _ _ = false

-- two of these operands have the same key
abbrev pub has_twins : List Operand → Bool
has_twins [] = false
has_twins (e ∷ es) = list_any (λ (other : Operand). same_key other.0 e.0) es || has_twins es

-- the operands, if no two have the same key
abbrev pub without_twins : Fault → List Operand → Result (List Operand) Fault
without_twins fault operands = if has_twins operands then Err fault else Ok operands

-- the texts of a statement's operands: none in an empty part
abbrev pub operand_texts : Fault → List ℕ → Result (List (List ℕ)) Fault
operand_texts fault text = if length text == 0 then Ok [] else or_fault fault (pieces_of text)

-- the operands of a statement at this line
abbrev pub operands_of : ℕ → List ℕ → Result (List Operand) Fault
operands_of line text =
    operand_texts (at S6 line) text >>= λ texts.
    each (operand_of (at S4 line)) 0 texts >>= λ operands.
    without_twins (at S2 line) operands

-- this key is this keyword
abbrev pub is_under : List ℕ → OperandKey → Bool
is_under keyword (Keyword word) = bytes_eq word keyword
is_under keyword (Bare place) = false

-- the text of the operand with this keyword, if there is one
abbrev pub text_under : List ℕ → List Operand → Option (List ℕ)
text_under keyword operands = lookup (is_under keyword) operands

-- this operand is this word alone
abbrev pub is_bare_word : List ℕ → Operand → Bool
is_bare_word word ((Keyword keyword), text) = false
is_bare_word word ((Bare place), text) = bytes_eq text word

-- one of these operands is this word alone
abbrev pub has_bare : List ℕ → List Operand → Bool
has_bare word operands = list_any (is_bare_word word) operands
