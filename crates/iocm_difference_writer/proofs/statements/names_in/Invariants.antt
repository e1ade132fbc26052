use Rattle.std.proofs.Common.{◌≡◌, take}
use Rattle.iocm_difference_writer.specs.Runs.{actions_in}
use Rattle.iocm_difference_writer.specs.Written.{names_in}
use Rattle.iocm_difference_writer.proofs.statements.names_in.Given as goal

abbrev pub invariant-loop-edit : goal.invariant-loop-edit
invariant-loop-edit g l = l.names.items ≡ names_in (actions_in (take l.edit-index l.run))
