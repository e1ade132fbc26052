-- What `explain` prints.
use Rattle.std.specs.Prelude.{◌≡◌, ⊤, ℕ, List, [], ◌∷◌, ◌++◌, Option, None, Some, Result, Ok, Err, find}
use Rattle.std.specs.List.{filter_map, flat_map}
use Rattle.iocm_types.specs.declared.rule.Rule.{Rule}
use Rattle.iocm_explain.specs.declared.entries.TheConstants.{RULES}
use Rattle.iocm_explain.specs.declared.explaining.Explained.{Explained}
use Rattle.iocm_explain.specs.declared.explaining.Unexplained.{Unexplained}
use Rattle.iocm_explain.specs.declared.explaining.Unexplained.TheVariants.{Memory, Unknown}
use Rattle.iocm_explain.specs.Named.{is_unknown, rule_named}
use Rattle.iocm_explain.specs.Printed.{entry_lines, heading_line}

-- the refusals whose numbers some words are, in their order
abbrev pub rules_named : List (List ℕ) → List Rule
rules_named words = filter_map rule_named words

-- some refusals, or the word that is no refusal's number, if there is one
abbrev pub unless_unknown : Option (List ℕ) → List Rule → Result (List Rule) (List ℕ)
unless_unknown (Some word) rules = Err word
unless_unknown None rules = Ok rules

-- the refusals that some words name, or the first of them that is no refusal's number
abbrev pub explained : List (List ℕ) → Result (List Rule) (List ℕ)
explained words = unless_unknown (find is_unknown words) (rules_named words)

-- these refusals are explained, or the word is answered; memory may run out always
abbrev pub Explains : Result Explained Unexplained → Result (List Rule) (List ℕ) → Type 0
Explains (Ok e) (Ok rules) = e.rules.items ≡ rules
Explains (Err Memory) said = ⊤
Explains (Err (Unknown w)) (Err word) = w.now ≡ word
Explains _ _ = ⊥

-- the entry of a refusal below an empty line
abbrev pub told_below : Rule → List ℕ
told_below rule = 10 ∷ entry_lines rule

-- the entries of some refusals in their order, with an empty line between; of none the number and the
-- title of each refusal, a line for each
abbrev pub told : List Rule → List ℕ
told [] = flat_map heading_line RULES
told (rule ∷ rules) = entry_lines rule ++ flat_map told_below rules
