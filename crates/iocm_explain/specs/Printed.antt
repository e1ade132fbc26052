-- How entries are printed.
use Rattle.std.specs.Prelude.{ℕ, List, [], ◌∷◌, ◌++◌, codes}
use Rattle.iocm_types.specs.declared.rule.Rule.{Rule}
use Rattle.iocm_types.specs.Rule.{rule_text}
use Rattle.iocm_explain.specs.Entry.{text_of, title_of}

-- the heading of an entry: the refusal's number, and its title
abbrev pub heading : List ℕ → List ℕ → List ℕ
heading number title = number ++ (codes ": " ++ title)

-- an entry, of its number, its title and its text, without the end of its last line
abbrev pub whole : List ℕ → List ℕ → List ℕ → List ℕ
whole number title text = heading number title ++ (codes "\n\n" ++ text)

-- the heading and the entry of a refusal, with the ends of their lines
abbrev pub heading_line : Rule → List ℕ
heading_line rule = heading (rule_text rule) (title_of rule) ++ 10 ∷ []

abbrev pub entry_lines : Rule → List ℕ
entry_lines rule = whole (rule_text rule) (title_of rule) (text_of rule) ++ 10 ∷ []
