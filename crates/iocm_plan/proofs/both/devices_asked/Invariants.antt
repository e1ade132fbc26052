-- The devices so far, with those of the keys that are left, are all.
use Rattle.std.proofs.Common.{◌≡◌, ◌++◌, filter, length}
use Rattle.std.specs.List.{filter_map}
use Rattle.iocm_difference.specs.Walks.{Pair}
use Rattle.iocm_sight.specs.Connected.{device_key}
use Rattle.iocm_plan.specs.Runs as meaning
use Rattle.iocm_plan.proofs.both.devices_asked.Given as goal

abbrev pub invariant-loop-met : goal.invariant-loop-met
invariant-loop-met l =
    l.devices.items ++ filter (meaning.wants_key l.filters) (filter_map (λ (p : Pair). device_key p.0) l.merge)
    ≡ meaning.devices_asked l.filters l.old.records l.new.records

abbrev pub decreases-loop-met : goal.decreases-loop-met
decreases-loop-met l = length l.merge
