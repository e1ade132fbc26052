-- The objects so far, with those of the keys that are left, are all.
use Rattle.std.proofs.Common.{◌≡◌, ◌++◌, length}
use Rattle.std.specs.List.{flat_map}
use Rattle.iocm_difference.specs.Walks.{Pair}
use Rattle.iocm_objects.specs.Objects as meaning
use Rattle.iocm_objects.proofs.object.objects_of.Given as goal

abbrev pub invariant-loop-met : goal.invariant-loop-met
invariant-loop-met l =
    l.objects.items ++ flat_map (λ (p : Pair). meaning.objects_at l.old.records l.new.records p.0) l.merge
    ≡ meaning.objects l.old.records l.new.records

abbrev pub decreases-loop-met : goal.decreases-loop-met
decreases-loop-met l = length l.merge
