-- What a journal keeps of changes, as a history tells it.
use Rattle.std.specs.Prelude.{◌≡◌, ℕ, false, Some, ◌∷◌, ◌++◌}
use Rattle.std.specs.List.{list_any}
use Rattle.iocm_model.specs.Operation.State.{State}
use Rattle.iocm_model.specs.Change.InverseTree.{inverse_tree, TakesBack}
use Rattle.iocm_model.specs.Change.Runs.{inverses}
use Rattle.iocm_history.specs.Entry.{Entry, History}
use Rattle.iocm_history.specs.Change.{Change, effect_of_change}
use Rattle.iocm_history.specs.MarkedEntry.{change_at}
use Rattle.iocm_history.specs.Account.{marked_entries, state_at}
use Rattle.iocm_history.specs.Journal.{is_in, journal_of}
use Rattle.iocm_history.specs.UndoLaws.{undo_entry}
use Rattle.iocm_history.specs.RedoLaws.{undoes_or_redoes}
use Rattle.iocm_tree.specs.Trees.{plain_tree, tree_of}
use Rattle.iocm_activate.specs.Done.{AreToldBy}
use Rattle.iocm_activate.specs.Effects.{effect_in}
use Rattle.iocm_activate.specs.Told.{told_of_all}
use Rattle.iocm_activate.specs.declared.effect.Effect.{Effect}
use Rattle.iocm_history.specs.Reckoning.{last_undone}
use Rattle.iocm_journal.specs.declared.kept.Kept.{Kept}
use Rattle.iocm_journal.specs.declared.kept.Undone.{Undone}

-- of the change of a number: the tree that takes it back, what its edits did, what it wrote,
-- whether it stands, and when it was last undone
pub record IsKept (opening : State) (h : History) (n : ℕ) (k : Kept) (f : Effect) : Type 0 where
  pub change : Change
  pub there : change_at n (marked_entries opening h) ≡ Some change
  pub inverse : plain_tree (tree_of k.inverse) ≡ inverse_tree change.edits change.from
  pub performed : AreToldBy k.performed.items (told_of_all change.edits change.from)
  pub effect : effect_in f ≡ effect_of_change change
  pub stands : k.stands ≡ is_in n (journal_of h).standing
  pub undone : k.undone_after ≡ last_undone n h

-- of a change that is undone: the tree that takes its undo back, where the configuration and the
-- numbers are as that left them
pub record IsRedoable (opening : State) (h : History) (u : Undone) : Type 0 where
  pub between : History
  pub before : History
  pub parts : h ≡ between ++ undo_entry u.number ∷ before
  pub last : list_any (λ (e : Entry). undoes_or_redoes u.number e.answer) between ≡ false
  pub change : Change
  pub there : change_at u.number (marked_entries opening before) ≡ Some change
  pub takes_back : TakesBack (plain_tree (tree_of u.redo)) (inverses change.edits change.from) (state_at opening before)
