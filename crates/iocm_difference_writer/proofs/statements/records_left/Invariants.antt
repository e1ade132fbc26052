use Rattle.std.proofs.Common.{◌≡◌, map, take}
use Rattle.std.specs.List.{flat_map}
use Rattle.iocm_difference_writer.specs.Runs.{actions_in}
use Rattle.iocm_difference_writer.specs.Written.{left_by}
use Rattle.iocm_difference_writer.proofs.statements.records_left.Given as goal

abbrev pub invariant-loop-edit : goal.invariant-loop-edit
invariant-loop-edit g l = map (λ k. k.now) l.records.items ≡ flat_map left_by (actions_in (take l.edit-index l.run))
