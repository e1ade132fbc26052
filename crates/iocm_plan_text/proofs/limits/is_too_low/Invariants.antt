-- What is left of the limit is less than the devices left, where the limit is less than all.
use Rattle.std.proofs.Common.{◌≡◌, filter, length, nat_lt}
use Rattle.iocm_plan_text.specs.Limits as meaning
use Rattle.iocm_plan_text.proofs.limits.is_too_low.Given as goal

abbrev pub invariant-loop-met : goal.invariant-loop-met
invariant-loop-met l =
    nat_lt l.left (length (filter (meaning.takes_one l.old.records l.new.records l.css l.set) l.merge))
    ≡ meaning.is_too_low l.old.records l.new.records l.css l.set l.limit

abbrev pub decreases-loop-met : goal.decreases-loop-met
decreases-loop-met l = length l.merge
