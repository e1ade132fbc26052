-- The fields of what a statement carries along: each operand under its keyword, in the order of the text; the bare words
-- are one field, at the place of the first.
use Rattle.std.specs.Prelude.{ℕ, Bool, not, is_some, if◌then◌else◌, Option, None, Some, List, [], ◌∷◌}
use Rattle.std.specs.Prelude.{◌++◌, map, filter, codes}
use Rattle.std.specs.List.{join_with_byte}
use Rattle.iocm_model.specs.Machine.Record.{CarriedOperand}
use Rattle.iocm_objects.specs.declared.field.Field.{Field}
use Rattle.iocm_objects.specs.declared.field.Value.{Value}
use Rattle.iocm_objects.specs.declared.field.Value.TheVariants as value

abbrev pub field : List ℕ → Value → Field
field name v = record { name = name; value = v }

abbrev pub is_bare : CarriedOperand → Bool
is_bare o = not (is_some o.keyword)

-- the bare words, with commas between them
abbrev pub bare_texts : List CarriedOperand → List (List ℕ)
bare_texts os = map (λ (o : CarriedOperand). o.text) (filter is_bare os)

abbrev pub bare_words : List CarriedOperand → List ℕ
bare_words os = join_with_byte 44 (bare_texts os)

-- the field of an operand: that of a bare one is all bare words, if these aren't told yet
abbrev pub words_once : Option (List ℕ) → List Field
words_once None = []
words_once (Some words) = field (codes "words") (value.Text words) ∷ []

abbrev pub under_keyword : Option (List ℕ) → List ℕ → Option (List ℕ) → List Field
under_keyword (Some keyword) text words = field keyword (value.Text text) ∷ []
under_keyword None text words = words_once words

abbrev pub operand_fields : Option (List ℕ) → CarriedOperand → List Field
operand_fields words o = under_keyword o.keyword o.text words

-- the fields of operands, with the bare words if these aren't told yet
abbrev pub words_after : Option (List ℕ) → CarriedOperand → Option (List ℕ)
words_after words o = if is_bare o then None else words

abbrev pub fields_with : Option (List ℕ) → List CarriedOperand → List Field
fields_with words [] = []
fields_with words (o ∷ os) = operand_fields words o ++ fields_with (words_after words o) os

abbrev pub carried_fields : List CarriedOperand → List Field
carried_fields os = fields_with (Some (bare_words os)) os
