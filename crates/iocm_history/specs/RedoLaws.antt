-- What a redo does in a legal history.
use Rattle.std.specs.Prelude.{◌≡◌, ℕ, ◌==◌, Bool, false, Some, ◌∷◌, ◌++◌, length, take}
use Rattle.std.specs.List.{list_any}
use Rattle.iocm_types.specs.declared.answer.Answer.{Answer}
use Rattle.iocm_types.specs.declared.answer.Answer.TheVariants.{Redone}
use Rattle.iocm_types.specs.declared.answer.Answer.TheVariants as answers
use Rattle.iocm_model.specs.Operation.State.{State, HasConfigAndNumbersOf}
use Rattle.iocm_model.specs.Change.Effect.{values_in}
use Rattle.iocm_history.specs.Entry.{redo, Entry, History, plain_entry}
use Rattle.iocm_history.specs.Store.{store_of, state_of, store_with}
use Rattle.iocm_history.specs.Change.{Change, cells_of_change}
use Rattle.iocm_history.specs.MarkedEntry.{lost, altered_by_change, change_at}
use Rattle.iocm_history.specs.Account.{replay, marked_entries, state_at}
use Rattle.iocm_history.specs.Legal.{IsLegal}
use Rattle.iocm_history.specs.InUse.{IsInUse}
use Rattle.iocm_history.specs.UndoLaws.{undo_entry, struck_steps}

-- an accepted redo
abbrev pub redo_entry : ℕ → Entry
redo_entry n = plain_entry (redo n) (Redone n)

-- an answer of an undo or a redo of this change
abbrev pub undoes_or_redoes : ℕ → Answer → Bool
undoes_or_redoes n (answers.Undone m) = n == m
undoes_or_redoes n (answers.Redone m) = n == m
undoes_or_redoes n _ = false

-- a change was undone, and redone with no undo or redo of it between
pub record IsRedone (opening : State) (h between : History) (n : ℕ) : Type 0 where
  pub used : IsInUse opening
  pub legal : IsLegal opening (redo_entry n ∷ between ++ undo_entry n ∷ h)
  pub first : list_any (λ (e : Entry). undoes_or_redoes n e.answer) between ≡ false

-- the redo takes the undo back: it goes back to what was before the undo, and plays what came
-- between them without the steps on the subchannels that the change altered
abbrev pub RedoTakesUndoBack : Type 0
RedoTakesUndoBack = (opening : State) (h between : History) (n : ℕ) → IsRedone opening h between n
    → let ls = marked_entries opening (between ++ undo_entry n ∷ h) in
    state_at opening (redo_entry n ∷ between ++ undo_entry n ∷ h)
    ≡ state_of (replay (replay (store_of opening) (marked_entries opening h))
    (struck_steps (altered_by_change n ls) lost (take (length between) ls)))

-- before it the configuration and the numbers are those that the undo left
abbrev pub RedoFindsWhatTheUndoLeft : Type 0
RedoFindsWhatTheUndoLeft = (opening : State) (h between : History) (n : ℕ) → IsRedone opening h between n
    → HasConfigAndNumbersOf (state_at opening (between ++ undo_entry n ∷ h)) (state_at opening (undo_entry n ∷ h))

-- it gives the cells that the change wrote what they had before the undo, and leaves all others
abbrev pub RedoPutsTheCellsForward : Type 0
RedoPutsTheCellsForward = (opening : State) (h between : History) (n : ℕ) (c : Change) → IsRedone opening h between n
    → change_at n (marked_entries opening h) ≡ Some c
    → store_of (state_at opening (redo_entry n ∷ between ++ undo_entry n ∷ h))
    ≡ store_with (values_in (state_at opening h) (cells_of_change c))
    (store_of (state_at opening (between ++ undo_entry n ∷ h)))
