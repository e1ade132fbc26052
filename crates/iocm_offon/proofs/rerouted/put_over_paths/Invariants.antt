-- The reasons so far, with those of the paths to come, are all.
use Rattle.std.proofs.Common.{◌≡◌, ◌++◌, drop}
use Rattle.std.specs.List.{flat_map}
use Rattle.iocm_plan.specs.Sides.{side_of}
use Rattle.iocm_offon.specs.Rerouted.{reasons_over}
use Rattle.iocm_offon.proofs.rerouted.put_over_paths.Given as goal

abbrev pub invariant-loop-path : goal.invariant-loop-path
invariant-loop-path l =
    l.reasons.items ++ flat_map (reasons_over l.image l.run (side_of l.before) (side_of l.after))
    (drop l.path-index l.path-items)
    ≡ l.initial.reasons.items ++ flat_map (reasons_over l.image l.run (side_of l.before) (side_of l.after)) l.path-items
