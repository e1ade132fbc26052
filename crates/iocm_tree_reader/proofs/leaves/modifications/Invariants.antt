use Rattle.std.proofs.Common.{◌≡◌, map}
use Rattle.iocm_model.specs.Change.Edit.{modify}
use Rattle.iocm_tree.specs.Carried.{bare}
use Rattle.iocm_tree_reader.proofs.leaves.modifications.Given as goal

abbrev pub invariant-loop-entry : goal.invariant-loop-entry
invariant-loop-entry g l = l.edits.items ≡ map (λ r. bare (modify r)) l.yielded
