-- The operands by which a statement says which records it is about: all that a DELETE looks at, and
-- all that ONLINE knows.
use Rattle.std.specs.Prelude.{Bool, false, List, [], ◌∷◌, codes}
use Rattle.std.specs.List.{list_any}
use Rattle.std.specs.Option.{option_map_or}
use Rattle.iocm_statements.specs.declared.operation.Operation.{Operation}
use Rattle.iocm_statements.specs.declared.operation.Operation.TheVariants.{Resource, Chpid, Cntlunit, Iodevice, Online}
use Rattle.iocm_statements.specs.Operands.{Operand, text_under, has_bare}
use Rattle.iocm_keywords.specs.Known.{Row, is_missing}
use Rattle.iocm_keywords.specs.LeftOut.{is_text_left_out}
use Rattle.iocm_keywords.specs.declared.known.Form.TheVariants as form

-- the words that give keys, and whether they are required
abbrev pub key_table : Operation → List Row
key_table Resource = (codes "PARTITION", form.Optional) ∷ (codes "MAXDEV", form.Optional) ∷ []
key_table Chpid = (codes "PATH", form.Required) ∷ []
key_table Cntlunit = (codes "CUNUMBR", form.Required) ∷ []
key_table Iodevice = (codes "ADDRESS", form.Required) ∷ (codes "SCHSET", form.Optional) ∷ []
key_table Online = (codes "PATH", form.Required) ∷ (codes "PARTITION", form.Required) ∷ []
key_table _ = []

-- one that is required isn't there
abbrev pub lacks_key : Operation → List Operand → Bool
lacks_key operation operands = list_any (is_missing operands) (key_table operation)

-- PATH of ONLINE has the forms of a CHPID's PATH
abbrev pub as_deck_operation : Operation → Operation
as_deck_operation Online = Chpid
as_deck_operation operation = operation

-- the value under one of the words is in a form that is left out by name
abbrev pub is_key_left_out : Operation → List Operand → Row → Bool
is_key_left_out operation operands (keyword, form) = option_map_or
    (is_text_left_out (as_deck_operation operation) keyword) (text_under keyword operands) false

abbrev pub has_key_left_out : Operation → List Operand → Bool
has_key_left_out operation operands = list_any (is_key_left_out operation operands) (key_table operation)

-- one of the words stands bare
abbrev pub is_key_bare : List Operand → Row → Bool
is_key_bare operands (keyword, form) = has_bare keyword operands

abbrev pub has_bare_key : Operation → List Operand → Bool
has_bare_key operation operands = list_any (is_key_bare operands) (key_table operation)
