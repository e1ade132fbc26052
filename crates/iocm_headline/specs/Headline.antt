-- The headline: what an accepted undo leaves.
use Rattle.std.specs.Prelude.{◌≡◌, ℕ, ◌∷◌, ◌++◌, Some}
use Rattle.iocm_model.specs.Operation.State.{State}
use Rattle.iocm_model.specs.Change.InverseTree.{inverse_tree}
use Rattle.iocm_model.specs.Change.Meaning.{meaning, state_reached}
use Rattle.iocm_history.specs.Account.{replay, marked_entries, state_at}
use Rattle.iocm_history.specs.Change as change
use Rattle.iocm_history.specs.Change.{values_before}
use Rattle.iocm_history.specs.Entry.{History}
use Rattle.iocm_history.specs.InUse.{IsInUse}
use Rattle.iocm_history.specs.Legal.{IsLegal}
use Rattle.iocm_history.specs.MarkedEntry.{change_at, without_change}
use Rattle.iocm_history.specs.Store.{store_of, state_of, store_with}
use Rattle.iocm_history.specs.UndoLaws.{undo_entry}

-- the undo of change n after a history leaves this state
pub record LeavesTheRunWithout (opening : State) (h : History) (n : ℕ) (left : State) : Type 0 where
  -- the change is there
  pub undone : change.Change
  pub there : change_at n (marked_entries opening h) ≡ Some undone
  -- it is the state of the run without the change: its entry is struck, and each step since on the
  -- subchannels that it altered
  pub run_without : left ≡ state_of (replay (store_of opening) (without_change n (marked_entries opening h)))
  -- the cells that the change wrote are as they were before it, and all others as they are
  pub cells : store_of left ≡ store_with (values_before undone) (store_of (state_at opening h))
  -- and it is what the inverse tree of the change means in the state before the undo
  pub by_its_inverse : state_reached (meaning (inverse_tree undone.edits undone.from) (state_at opening h)) ≡ Some left

-- at each place of a legal history, an accepted undo left that
abbrev pub AnUndoInALegalHistory : Type 0
AnUndoInALegalHistory = (opening : State) (whole : History) → IsInUse opening → IsLegal opening whole
    → (later h : History) (n : ℕ) → whole ≡ later ++ undo_entry n ∷ h
    → LeavesTheRunWithout opening h n (state_at opening (undo_entry n ∷ h))
