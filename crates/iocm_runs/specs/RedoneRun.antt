-- The run without an undo and its redo is a run: where only steps came between them.
use Rattle.std.specs.Prelude.{◌≡◌, ℕ, true, ◌∷◌, ◌++◌}
use Rattle.iocm_model.specs.Operation.State.{State}
use Rattle.iocm_history.specs.Entry.{History}
use Rattle.iocm_history.specs.MarkedEntry.{altered_by_change}
use Rattle.iocm_history.specs.Account.{marked_entries, state_at}
use Rattle.iocm_history.specs.Journal.{is_in, journal_of}
use Rattle.iocm_history.specs.Legal.{IsLegal}
use Rattle.iocm_history.specs.InUse.{IsInUse}
use Rattle.iocm_history.specs.UndoLaws.{undo_entry}
use Rattle.iocm_history.specs.RedoLaws.{redo_entry}
use Rattle.iocm_runs.specs.RunWithout.{leaves_changes, steps_off}

-- a change was undone and redone, with no change accepted, undone or redone between
pub record IsRedoneAlone (opening : State) (h between : History) (n : ℕ) : Type 0 where
  pub used : IsInUse opening
  pub legal : IsLegal opening (redo_entry n ∷ between ++ undo_entry n ∷ h)
  pub alone : leaves_changes between ≡ true

-- what is left of a history without the undo and the redo: what was before the undo, and of what
-- came between the steps that were done on no subchannel that the change altered
abbrev pub run_without_both : State → ℕ → History → History → History
run_without_both opening n between h = steps_off (altered_by_change n (marked_entries opening h)) between ++ h

-- that run is legal, with the same answers to the steps that are left, and leads to the state after
-- the redo; after it the same changes stand, and the same are undone, in the same order
pub record IsRunWithoutBoth (opening : State) (h between : History) (n : ℕ) : Type 0 where
  pub legal : IsLegal opening (run_without_both opening n between h)
  pub state : state_at opening (redo_entry n ∷ between ++ undo_entry n ∷ h)
      ≡ state_at opening (run_without_both opening n between h)
  pub standing : (k : ℕ) → is_in k (journal_of (redo_entry n ∷ between ++ undo_entry n ∷ h)).standing
      ≡ is_in k (journal_of (run_without_both opening n between h)).standing
  pub undone : (journal_of (redo_entry n ∷ between ++ undo_entry n ∷ h)).undone
      ≡ (journal_of (run_without_both opening n between h)).undone

abbrev pub RedoneRunsAreRuns : Type 0
RedoneRunsAreRuns = (opening : State) (h between : History) (n : ℕ) → IsRedoneAlone opening h between n
    → IsRunWithoutBoth opening h between n
