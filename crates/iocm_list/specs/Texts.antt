-- What a statement carries along under a keyword.
use Rattle.std.specs.Prelude.{ℕ, Bool, false, if◌then◌else◌, Option, None, Some, List, [], ◌∷◌}
use Rattle.std.specs.Option.{option_map_or}
use Rattle.std.specs.Str.{bytes_eq}
use Rattle.iocm_model.specs.Machine.Record.{CarriedOperand}

abbrev pub has_keyword : List ℕ → CarriedOperand → Bool
has_keyword keyword o = option_map_or (λ own. bytes_eq own keyword) o.keyword false

-- the text of the first operand with this keyword
abbrev pub carried_text : List ℕ → List CarriedOperand → Option (List ℕ)
carried_text keyword [] = None
carried_text keyword (o ∷ os) = if has_keyword keyword o then Some o.text else carried_text keyword os
