-- Why a round stops.
use Rattle.std.specs.Prelude.{Option, None, Some}
use Rattle.iocm_types.specs.declared.rule.Rule.{Rule}
use Rattle.iocm_types.specs.declared.rule.Rule.TheVariants as rules

-- which of two comes first: M1, then G1, then the first of the others
abbrev pub graver_rule : Rule → Rule → Rule
graver_rule rules.M1 s = rules.M1
graver_rule r rules.M1 = rules.M1
graver_rule rules.G1 s = rules.G1
graver_rule r rules.G1 = rules.G1
graver_rule r s = r

abbrev pub graver : Option Rule → Option Rule → Option Rule
graver None s = s
graver (Some r) None = Some r
graver (Some r) (Some s) = Some (graver_rule r s)
