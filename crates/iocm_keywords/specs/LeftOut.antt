-- The forms of known operands that this product leaves out by name.
-- IOCP User's Guide; which forms are left out is own.
use Rattle.std.specs.Prelude.{ℕ, ◌&&◌, ◌||◌, nat_le, Bool, true, false, Option, Some, List, [], length}
use Rattle.std.specs.Prelude.{count_by, codes, is_some, unwrap_or}
use Rattle.std.specs.List.{list_any}
use Rattle.std.specs.Option.{option_and_then}
use Rattle.std.specs.Str.{bytes_eq}
use Rattle.iocm_statements.specs.declared.operation.Operation.{Operation}
use Rattle.iocm_statements.specs.declared.operation.Operation.TheVariants.{Chpid, Iodevice}
use Rattle.iocm_statements.specs.Operands.{Operand}
use Rattle.iocm_statements.specs.Pieces.{pieces_of}
use Rattle.iocm_values.specs.CssLists.{inside_css}
use Rattle.iocm_values.specs.Digits.{is_number, is_decimal_digit, is_hex_digit}
use Rattle.iocm_values.specs.ItemWords.{item_words}
use Rattle.iocm_values.specs.Value.{Value, items, value}
use Rattle.iocm_keywords.specs.declared.known.Form.{Form}
use Rattle.iocm_keywords.specs.declared.known.Form.TheVariants as form
use Rattle.iocm_keywords.specs.Known.{table, form_in, word_of, has_value}

-- how many of these texts are decimal numbers
abbrev pub count_decimals : List (List ℕ) → ℕ
count_decimals texts = count_by (is_number is_decimal_digit) texts

-- the items of the word CSS(..); another word has none
abbrev pub css_items : List ℕ → List (List ℕ)
css_items text = unwrap_or (option_and_then pieces_of (inside_css text)) []

-- the word CSS(..) with two decimal numbers or more
abbrev pub spans_css : List ℕ → Bool
spans_css text = nat_le 2 (count_decimals (css_items text))

-- a word of one of the text's items names several channel subsystems. What is between the
-- parentheses of a CSS(..) is not looked into: a list, a CSS(..) or a name there is no number
abbrev pub names_several_css : List ℕ → Bool
names_several_css text = list_any spans_css (item_words text)

-- a hexadecimal number of one or two digits
abbrev pub is_path_word : List ℕ → Bool
is_path_word text = is_number is_hex_digit text && nat_le (length text) 2

-- two of the words of items are such numbers, or more
abbrev pub names_several_paths : List ℕ → Bool
names_several_paths text = nat_le 2 (count_by is_path_word (item_words text))

-- a list of items
abbrev pub is_list : Value → Bool
is_list v = is_some (items v)

-- several paths of a CHPID, and a list of subchannel sets
abbrev pub is_form_left_out : Operation → List ℕ → List ℕ → Bool
is_form_left_out Chpid keyword text = bytes_eq keyword (codes "PATH") && names_several_paths text
is_form_left_out Iodevice keyword text = bytes_eq keyword (codes "SCHSET") && is_list (value text)
is_form_left_out _ keyword text = false

-- the value of a keyword in a form that is left out
abbrev pub is_text_left_out : Operation → List ℕ → List ℕ → Bool
is_text_left_out operation keyword text = names_several_css text || is_form_left_out operation keyword text

-- an operand with such a value
abbrev pub is_value_left_out : Operation → Operand → Bool
is_value_left_out operation o = has_value o && is_text_left_out operation (word_of o) o.1

-- a word that is left out in every form, or a value that is
abbrev pub is_left_out_as : Option Form → Operation → Operand → Bool
is_left_out_as (Some form.LeftOut) operation o = true
is_left_out_as (Some form.Required) operation o = is_value_left_out operation o
is_left_out_as (Some form.Optional) operation o = is_value_left_out operation o
is_left_out_as _ operation o = false

abbrev pub is_left_out : Operation → Operand → Bool
is_left_out operation o = is_left_out_as (form_in (table operation) (word_of o)) operation o
