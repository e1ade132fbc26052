-- The inverse trees that a journal keeps, and that a commit gives, take their changes back.
use Rattle.std.specs.Prelude.{◌≡◌, ℕ, ◌+◌, List, Some}
use Rattle.std.specs.List.{slice_get}
use Rattle.iocm_model.specs.Operation.State.{State}
use Rattle.iocm_model.specs.Change.InverseTree.{TakesBack}
use Rattle.iocm_history.specs.Account.{marked_entries, stage_of}
use Rattle.iocm_history.specs.Change.{Change}
use Rattle.iocm_history.specs.Entry.{History}
use Rattle.iocm_history.specs.InUse.{IsInUse}
use Rattle.iocm_history.specs.Legal.{IsLegal}
use Rattle.iocm_history.specs.MarkedEntry.{change_at}
use Rattle.iocm_history.specs.Stage.{Stage}
use Rattle.iocm_tree.specs.Trees.{plain_tree, tree_of}
use Rattle.iocm_activate.specs.declared.done.Done.{Done}
use Rattle.iocm_activate.specs.declared.effect.Effect.{Effect}
use Rattle.iocm_stage.specs.Staged.{Tells}
use Rattle.iocm_journal.specs.Journaled.{Journaled}
use Rattle.iocm_journal.specs.Now.{IsJournalOf}
use Rattle.iocm_journal.specs.declared.kept.Kept.{Kept}

-- a kept change is there in the history, under its number, and its inverse tree takes it back
pub record HasItsInverse (opening : State) (h : History) (n : ℕ) (k : Kept) : Type 0 where
  pub change : Change
  pub there : change_at n (marked_entries opening h) ≡ Some change
  pub takes_back : TakesBack (plain_tree (tree_of k.inverse)) change.edits change.from

-- so it is of each change of a journal beside its history, counted from 1
abbrev pub KeptInversesTakeBack : Type 0
KeptInversesTakeBack = (opening : State) (h : History) (j : Journaled) (fs : List Effect) (n : ℕ) (k : Kept)
    (f : Effect) → IsJournalOf opening h j fs → slice_get j.changes n ≡ Some k → slice_get fs n ≡ Some f
    → HasItsInverse opening h (n + 1) k

-- and of what is told of a change that is staged in a legal history
abbrev pub ToldInversesTakeBack : Type 0
ToldInversesTakeBack = (opening : State) (h : History) (t : Stage) (d : Done)
    → IsInUse opening → IsLegal opening h → stage_of opening h ≡ Some t → Tells d t.change
    → TakesBack (plain_tree (tree_of d.inverse)) t.change.edits t.change.from
