use Rattle.std.proofs.Common.{◌≡◌, [], ◌∷◌, Some, filter, refl}
use Rattle.std.specs.Str.{bytes_eq}
use Rattle.iocm_types.specs.declared.rule.Rule.{Rule}
use Rattle.iocm_types.specs.declared.rule.Rule.TheVariants.{L1}
use Rattle.iocm_types.specs.Rule.{rule_text}
use Rattle.iocm_explain.specs.declared.entries.TheConstants.{RULES}
use Rattle.iocm_explain.specs.Named.{rule_named}
use Rattle.iocm_explain.proofs.Capitals.{named_in_capitals}
use Rattle.iocm_explain.proofs.laws.refusals_are_named_by_number.Goals as goal

is_found : (r : Rule) → rule_named (rule_text r) ≡ Some r
unfolding rule_named
is_found L1 = refl
is_found _ = refl

is_listed_once : (r : Rule) → filter (λ s. bytes_eq (rule_text s) (rule_text r)) RULES ≡ r ∷ []
is_listed_once L1 = refl
is_listed_once _ = refl

pub returns : goal.returns
unfolding rule_named
returns c = record { own = is_found; only = λ word. named_in_capitals word RULES; once = is_listed_once }
