-- None of the names so far differs.
use Rattle.std.proofs.Common.{◌≡◌, not, drop}
use Rattle.std.specs.List.{list_any}
use Rattle.iocm_model.specs.Rules.EachRule.{same_name}
use Rattle.iocm_rules.proofs.names.differs_from_any.Given as goal

abbrev pub invariant-loop-other : goal.invariant-loop-other
invariant-loop-other l =
    list_any (λ b. not (same_name l.name b)) (drop l.other-index l.others)
    ≡ list_any (λ b. not (same_name l.name b)) l.others
