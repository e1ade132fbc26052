-- What an undo or a redo that was performed did to the journal and the machine.
use Rattle.std.specs.Prelude.{◌≡◌, ℕ, ◌+◌, true, false, length, Some, [], ◌∷◌, ◌++◌, slice_set}
use Rattle.std.specs.List.{slice_get}
use Rattle.iocm_model.specs.Operation.State.{State}
use Rattle.iocm_model.specs.Change.InverseTree.{TakesBack}
use Rattle.iocm_model.specs.Change.Meaning.{meaning, state_reached}
use Rattle.iocm_tree.specs.Trees.{plain_tree, tree_of}
use Rattle.iocm_activate.specs.Done.{edits_of}
use Rattle.iocm_journal.specs.declared.kept.Kept.{Kept}
use Rattle.iocm_journal.specs.declared.kept.Undone.{Undone}
use Rattle.iocm_journal.specs.Journaled.{Journaled}

-- a change that doesn't stand any more, since so many were accepted; and one that stands again
abbrev pub no_more : ℕ → Kept → Kept
no_more count k = record k { stands = false; undone_after = count }

abbrev pub again : Kept → Kept
again k = record k { stands = true }

-- the change at a place was taken back by its inverse tree, from one state to another; the tree
-- that does it again is kept
pub record WasUndone (old : Journaled) (place : ℕ) (before after : State) (new : Journaled) : Type 0 where
  pub kept : Kept
  pub there : slice_get old.changes place ≡ Some kept
  pub means : state_reached (meaning (plain_tree (tree_of kept.inverse)) before) ≡ Some after
  pub changes : new.changes ≡ slice_set old.changes place (no_more (length old.changes) kept)
  pub standing : new.standing + 1 ≡ old.standing
  pub last : Undone
  pub undone : new.undone ≡ old.undone ++ last ∷ []
  pub number : last.number ≡ place + 1
  pub takes_back : TakesBack (plain_tree (tree_of last.redo))
      (edits_of (meaning (plain_tree (tree_of kept.inverse)) before)) before

-- the change at a place, the last one undone, was done again by the tree that was kept for that
pub record WasRedone (old : Journaled) (place : ℕ) (before after : State) (new : Journaled) : Type 0 where
  pub kept : Kept
  pub there : slice_get old.changes place ≡ Some kept
  pub last : Undone
  pub undone : old.undone ≡ new.undone ++ last ∷ []
  pub number : last.number ≡ place + 1
  pub means : state_reached (meaning (plain_tree (tree_of last.redo)) before) ≡ Some after
  pub changes : new.changes ≡ slice_set old.changes place (again kept)
  pub standing : new.standing ≡ old.standing + 1

-- a journal keeps the same as another; room doesn't count
pub record KeepsTheSame (old new : Journaled) : Type 0 where
  pub changes : new.changes ≡ old.changes
  pub standing : new.standing ≡ old.standing
  pub undone : new.undone ≡ old.undone
