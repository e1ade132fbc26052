use Rattle.std.proofs.Common.{◌≡◌, map}
use Rattle.iocm_model.specs.Change.Edit.{add}
use Rattle.iocm_tree.specs.Carried.{bare}
use Rattle.iocm_tree_reader.proofs.leaves.additions.Given as goal

abbrev pub invariant-loop-entry : goal.invariant-loop-entry
invariant-loop-entry g l = l.edits.items ≡ map (λ r. bare (add r)) l.yielded
