-- Which refusal a word is the number of.
use Rattle.std.specs.Prelude.{◌≡◌, ℕ, Bool, List, [], ◌∷◌, map, filter, find, Option, Some, IfSome, is_none}
use Rattle.std.specs.Char.{to_ascii_uppercase}
use Rattle.std.specs.Str.{bytes_eq, str_eq_ignore_ascii_case}
use Rattle.iocm_types.specs.declared.rule.Rule.{Rule}
use Rattle.iocm_types.specs.Rule.{rule_text}
use Rattle.iocm_explain.specs.declared.entries.TheConstants.{RULES}

-- whether a word is this refusal's number, in capitals or small letters
abbrev pub is_number_of : List ℕ → Rule → Bool
is_number_of word rule = str_eq_ignore_ascii_case (rule_text rule) word

-- the first of some refusals that has this number
abbrev pub named_among : List ℕ → List Rule → Option Rule
named_among word rules = find (is_number_of word) rules

-- the refusal whose number it is
unfoldable pub rule_named : List ℕ → Option Rule
rule_named word = named_among word RULES

-- whether a word is no refusal's number
abbrev pub is_unknown : List ℕ → Bool
is_unknown word = is_none (rule_named word)

-- a word in capitals
abbrev pub capitals : List ℕ → List ℕ
capitals word = map to_ascii_uppercase word

-- each refusal is found by its number, and by no other word but in small letters; and each is listed
-- once
pub record AreNamedByNumber : Type 0 where
  pub own : (r : Rule) → rule_named (rule_text r) ≡ Some r
  pub only : (word : List ℕ) → IfSome (rule_named word) (λ r. rule_text r ≡ capitals word)
  pub once : (r : Rule) → filter (λ s. bytes_eq (rule_text s) (rule_text r)) RULES ≡ r ∷ []
