-- The run without an undo and its redo is a run, also where other changes were undone and redone
-- between: of what came between the steps that count are left.
use Rattle.std.specs.Prelude.{◌≡◌, ℕ, ◌&&◌, List, [], ◌∷◌, ◌++◌, drop, if◌then◌else◌}
use Rattle.iocm_model.specs.Operation.State.{State}
use Rattle.iocm_history.specs.Entry.{History}
use Rattle.iocm_history.specs.MarkedEntry.{MarkedEntry}
use Rattle.iocm_history.specs.Account.{marked_entries, state_at}
use Rattle.iocm_history.specs.StandsOn.{is_kept}
use Rattle.iocm_history.specs.Legal.{IsLegal}
use Rattle.iocm_history.specs.StageLaws.{is_done}
use Rattle.iocm_history.specs.UndoLaws.{undo_entry}
use Rattle.iocm_history.specs.RedoLaws.{redo_entry, IsRedone}

-- of entries, by their marks, the steps that were done and aren't struck
abbrev pub steps_that_count : History → List MarkedEntry → History
steps_that_count [] ls = []
steps_that_count (e ∷ h) [] = []
steps_that_count (e ∷ h) (l ∷ ls) =
    if is_done e.call e.answer && is_kept l.mark then e ∷ steps_that_count h ls else steps_that_count h ls

-- what is left of a history without an undo and its redo: what was before the undo, and of what
-- came between the steps that count after the redo
abbrev pub run_that_counts : State → ℕ → History → History → History
run_that_counts opening n between h =
    steps_that_count between (drop 1 (marked_entries opening (redo_entry n ∷ between ++ undo_entry n ∷ h))) ++ h

-- that run is legal, with the same answers to the steps that are left, and leads to the state after
-- the redo. What was before the undo is marked as it was then
pub record IsRunThatCounts (opening : State) (h between : History) (n : ℕ) : Type 0 where
  pub legal : IsLegal opening (run_that_counts opening n between h)
  pub state : state_at opening (redo_entry n ∷ between ++ undo_entry n ∷ h)
      ≡ state_at opening (run_that_counts opening n between h)
  pub since : List MarkedEntry
  pub marks : marked_entries opening (redo_entry n ∷ between ++ undo_entry n ∷ h) ≡ since ++ marked_entries opening h

abbrev pub RunsThatCountAreRuns : Type 0
RunsThatCountAreRuns = (opening : State) (h between : History) (n : ℕ) → IsRedone opening h between n
    → IsRunThatCounts opening h between n
