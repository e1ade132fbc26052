-- The notes so far, with those that are left, are all.
use Rattle.std.proofs.Common.{◌≡◌, ◌++◌, drop}
use Rattle.std.specs.List.{flat_map}
use Rattle.iocm_plan_text.specs.Limits.{limit_line}
use Rattle.iocm_plan_text.proofs.limits.put_limit_notes.Given as goal

abbrev pub invariant-loop-limit : goal.invariant-loop-limit
invariant-loop-limit l = l.text.items ++ flat_map limit_line (drop l.limit-index l.limits)
    ≡ l.initial.text.items ++ flat_map limit_line l.limits
