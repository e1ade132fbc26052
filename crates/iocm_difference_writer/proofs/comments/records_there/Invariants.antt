use Rattle.std.proofs.Common.{◌≡◌, map, take}
use Rattle.std.specs.List.{flat_map}
use Rattle.iocm_difference_writer.specs.Comments.{was_there}
use Rattle.iocm_difference_writer.specs.Runs.{actions_in}
use Rattle.iocm_difference_writer.proofs.comments.records_there.Given as goal

abbrev pub invariant-loop-edit : goal.invariant-loop-edit
invariant-loop-edit g l =
    map (λ k. k.now) l.records.items ≡ flat_map (was_there l.old.records) (actions_in (take l.edit-index l.run))
