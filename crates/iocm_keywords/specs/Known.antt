-- Which operands a statement knows: its table. What the table doesn't name is carried.
-- IOCP User's Guide, the statements; which operands are known, and which are left out, is own.
use Rattle.std.specs.Prelude.{ℕ, Bool, true, false, not, is_none, Option, Some, List, [], ◌∷◌, codes}
use Rattle.std.specs.List.{list_any}
use Rattle.std.specs.Map.{lookup}
use Rattle.std.specs.Str.{bytes_eq}
use Rattle.iocm_statements.specs.declared.operation.Operation.{Operation}
use Rattle.iocm_statements.specs.declared.operation.Operation.TheVariants.{Resource, Chpid, Cntlunit, Iodevice}
use Rattle.iocm_statements.specs.declared.operands.OperandKey.TheVariants.{Keyword, Bare}
use Rattle.iocm_statements.specs.Operands.{Operand, text_under}
use Rattle.iocm_keywords.specs.declared.known.Form.{Form}
use Rattle.iocm_keywords.specs.declared.known.Row as code
use Rattle.iocm_keywords.specs.declared.known.Form.TheVariants as form

-- a word that a statement knows, and the form that it stands in
abbrev pub Row : Type 0
Row = List ℕ × Form

-- a row of the code, wherever its bytes lie
abbrev pub seen_row : code.Row → Row
seen_row r = (r.word.now, r.form)

-- the words that each statement knows
abbrev pub table : Operation → List Row
table Resource = (codes "PARTITION", form.Optional) ∷ (codes "MAXDEV", form.Optional) ∷ []
table Chpid =
    (codes "PATH", form.Required) ∷ (codes "SHARED", form.Bare) ∷ (codes "REC", form.Bare)
    ∷ (codes "PARTITION", form.Optional)
    ∷ (codes "NOTPART", form.LeftOut) ∷ []
table Cntlunit =
    (codes "CUNUMBR", form.Required) ∷ (codes "PATH", form.Optional) ∷ (codes "UNITADD", form.Optional)
    ∷ (codes "LINK", form.Optional)
    ∷ (codes "CUADD", form.Optional) ∷ []
table Iodevice =
    (codes "ADDRESS", form.Required) ∷ (codes "CUNUMBR", form.Optional) ∷ (codes "UNITADD", form.Optional)
    ∷ (codes "SCHSET", form.Optional)
    ∷ (codes "PARTITION", form.Optional) ∷ (codes "NOTPART", form.LeftOut) ∷ []
table _ = []

-- the form of a word in a table, if the table names it
abbrev pub form_in : List Row → List ℕ → Option Form
form_in rows word = lookup (bytes_eq word) rows

-- the word that an operand is told by: its keyword, or the whole of a bare text
abbrev pub word_of : Operand → List ℕ
word_of ((Keyword word), text) = word
word_of ((Bare place), text) = text

-- whether an operand stands under a keyword
abbrev pub has_value : Operand → Bool
has_value ((Keyword word), text) = true
has_value ((Bare place), text) = false

-- an operand whose word the statement doesn't know
abbrev pub is_carried : Operation → Operand → Bool
is_carried operation o = is_none (form_in (table operation) (word_of o))

-- a row whose operand is required and isn't there
abbrev pub is_missing : List Operand → Row → Bool
is_missing operands (word, form.Required) = is_none (text_under word operands)
is_missing operands (word, _) = false

-- a required operand isn't there
abbrev pub lacks_required : Operation → List Operand → Bool
lacks_required operation operands = list_any (is_missing operands) (table operation)

-- a known word in another form than its own: a bare word with a value, or a value's keyword bare
abbrev pub is_other_form_of : Option Form → Bool → Bool
is_other_form_of (Some form.Bare) valued = valued
is_other_form_of (Some form.Required) valued = not valued
is_other_form_of (Some form.Optional) valued = not valued
is_other_form_of _ valued = false

abbrev pub is_other_form : Operation → Operand → Bool
is_other_form operation o = is_other_form_of (form_in (table operation) (word_of o)) (has_value o)
