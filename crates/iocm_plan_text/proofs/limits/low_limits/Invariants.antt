-- The limits so far, with those of the keys that are left, are all.
use Rattle.std.proofs.Common.{◌≡◌, ◌++◌, length}
use Rattle.std.specs.List.{filter_map}
use Rattle.iocm_difference.specs.Walks.{Pair}
use Rattle.iocm_plan_text.specs.Limits as meaning
use Rattle.iocm_plan_text.proofs.limits.low_limits.Given as goal

abbrev pub invariant-loop-met : goal.invariant-loop-met
invariant-loop-met l =
    l.limits.items ++ filter_map (λ (p : Pair). meaning.low_limit l.old.records l.new.records p.1.1) l.merge
    ≡ meaning.low_limits l.old.records l.new.records

abbrev pub decreases-loop-met : goal.decreases-loop-met
decreases-loop-met l = length l.merge
