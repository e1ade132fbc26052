use Rattle.std.proofs.Common.{◌≡◌, drop}
use Rattle.iocm_rules.specs.Found.{first_found}
use Rattle.iocm_rules.proofs.found.first_of.Given as goal

-- nothing was found of the rules before
abbrev pub invariant-loop-rule : goal.invariant-loop-rule
invariant-loop-rule l = first_found l.found ≡ first_found (drop l.rule-index l.found)
