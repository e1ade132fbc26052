-- None of the names so far differs.
use Rattle.std.proofs.Common.{◌≡◌, not, drop}
use Rattle.std.specs.List.{list_any}
use Rattle.iocm_model.specs.Rules.EachRule.{same_name}
use Rattle.iocm_rules.proofs.names.any_differs.Given as goal

abbrev pub invariant-loop-name : goal.invariant-loop-name
invariant-loop-name l = list_any (λ a. list_any (λ b. not (same_name a b)) l.others) (drop l.name-index l.names)
    ≡ list_any (λ a. list_any (λ b. not (same_name a b)) l.others) l.names
