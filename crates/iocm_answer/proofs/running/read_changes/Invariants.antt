-- The change decks so far were read as these trees.
use Rattle.std.proofs.Common.{map}
use Rattle.iocm_tree.specs.Trees.{tree_of}
use Rattle.iocm_answer.proofs.ChangesRead.{AreReadTo}
use Rattle.iocm_answer.proofs.running.read_changes.Given as goal

abbrev pub invariant-loop-change : goal.invariant-loop-change
invariant-loop-change l = AreReadTo (λ v. v.items) l.changes (map tree_of l.trees.items) l.change-index
