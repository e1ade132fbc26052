use Rattle.std.proofs.Common.{◌≡◌, map}
use Rattle.iocm_model.specs.Change.Edit.{delete}
use Rattle.iocm_tree.specs.Carried.{bare}
use Rattle.iocm_tree_reader.proofs.leaves.deletions.Given as goal

abbrev pub invariant-loop-key : goal.invariant-loop-key
invariant-loop-key g l = l.edits.items ≡ map (λ k. bare (delete k)) l.yielded
