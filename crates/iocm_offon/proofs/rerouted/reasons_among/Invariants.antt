-- The reasons so far, with those of the images to come, are all.
use Rattle.std.proofs.Common.{◌≡◌, ◌++◌, drop}
use Rattle.std.specs.List.{flat_map}
use Rattle.iocm_impact.specs.Gathered.{change}
use Rattle.iocm_offon.specs.Rerouted.{reasons_on_runs}
use Rattle.iocm_offon.proofs.rerouted.reasons_among.Given as goal

abbrev pub invariant-loop-image : goal.invariant-loop-image
invariant-loop-image l =
    let x = change l.filters l.is_lost l.old.records l.new.records in
    l.reasons.items ++ flat_map (reasons_on_runs x l.runs) (drop l.image-index l.images)
    ≡ flat_map (reasons_on_runs x l.runs) l.images
