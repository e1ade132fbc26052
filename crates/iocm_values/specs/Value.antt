-- The value of an operand: a word, or a list in parentheses, which is opened a level at a time.
use Rattle.std.specs.Prelude.{ℕ, ◌-◌, if◌then◌else◌, Option, None}
use Rattle.std.specs.Prelude.{Some, List, [], ◌∷◌, map, length, take, drop, codes}
use Rattle.std.specs.Option.{option_map, option_map_or, option_and_then}
use Rattle.std.specs.Str.{bytes_eq}
use Rattle.iocm_statements.specs.Pieces.{pieces_of}
use Rattle.iocm_values.specs.declared.value.Value as code
use Rattle.iocm_values.specs.declared.value.Value.TheVariants as shape

-- a word, or a list by the text between its parentheses
pub data Value : Type 0 where
  word : List ℕ → Value
  list : List ℕ → Value

-- a value of the code, wherever its bytes lie
abbrev pub seen : code.Value → Value
seen (shape.Word text) = word text.now
seen (shape.List inner) = list inner.now

-- the rest of a text that begins with these bytes
abbrev pub behind : List ℕ → List ℕ → Option (List ℕ)
behind front text = if bytes_eq (take (length front) text) front then Some (drop (length front) text) else None

-- the front of a text that ends with these bytes
abbrev pub before : List ℕ → List ℕ → Option (List ℕ)
before last text =
    if bytes_eq (drop (length text - length last) text) last then Some (take (length text - length last) text) else None

-- what stands between the parentheses of a text that begins with one and ends with one
abbrev pub inside : List ℕ → Option (List ℕ)
inside text = option_and_then (before (codes ")")) (behind (codes "(") text)

-- the value that a text writes
abbrev pub value : List ℕ → Value
value text = option_map_or list (inside text) (word text)

-- the values between the commas of a text
abbrev pub values : List ℕ → Option (List Value)
values text = option_map (map value) (pieces_of text)

-- the items of a list; a word has none
abbrev pub items : Value → Option (List Value)
items (word text) = None
items (list inner) = values inner

-- the items of a list, or a word alone
abbrev pub items_or_one : Value → Option (List Value)
items_or_one (word text) = Some (word text ∷ [])
items_or_one (list inner) = values inner

-- the text of a word; a list is none
abbrev pub word_text : Value → Option (List ℕ)
word_text (word text) = Some text
word_text (list inner) = None
