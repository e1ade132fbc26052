-- The edits so far, with those of the keys that are left behind them, are those of all keys.
use Rattle.std.proofs.Common.{◌≡◌, length}
use Rattle.std.specs.List.{filter_map}
use Rattle.iocm_difference.specs.Difference.{actions_between}
use Rattle.iocm_difference.specs.Passes.{passes_in, no_passes}
use Rattle.iocm_difference.proofs.InPasses.{with_all}
use Rattle.iocm_difference.specs.Walks.{action_at}
use Rattle.iocm_difference.proofs.edits.difference.Given as goal

abbrev pub invariant-loop-met : goal.invariant-loop-met
invariant-loop-met g l =
    with_all (passes_in l.passes) (filter_map action_at l.merge)
    ≡ with_all no_passes (actions_between l.old.records l.new.records)

abbrev pub decreases-loop-met : goal.decreases-loop-met
decreases-loop-met g l = length l.merge
