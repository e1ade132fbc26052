-- The run without an undone change is a run: where only steps came since the change.
use Rattle.std.specs.Prelude.{◌≡◌, ℕ, true, ◌∷◌, ◌++◌}
use Rattle.iocm_types.specs.declared.answer.Answer.TheVariants.{Changed}
use Rattle.iocm_model.specs.Operation.State.{State}
use Rattle.iocm_history.specs.Entry.{Entry, History}
use Rattle.iocm_history.specs.Account.{state_at}
use Rattle.iocm_history.specs.Legal.{IsLegal}
use Rattle.iocm_history.specs.InUse.{IsInUse}
use Rattle.iocm_history.specs.UndoLaws.{undo_entry}
use Rattle.iocm_runs.specs.RunWithout.{leaves_changes, run_without}

-- an entry accepted a change, and the change was undone, with no change accepted, undone or redone
-- between
pub record IsUndoneAlone (opening : State) (h since : History) (e : Entry) (n : ℕ) : Type 0 where
  pub used : IsInUse opening
  pub legal : IsLegal opening (undo_entry n ∷ since ++ e ∷ h)
  pub accepted : e.answer ≡ Changed n
  pub alone : leaves_changes since ≡ true

-- then the run without the change is legal, with the same answers to the steps that are left, and
-- leads to the state after the undo
pub record IsRunWithout (opening : State) (h since : History) (e : Entry) (n : ℕ) : Type 0 where
  pub legal : IsLegal opening (run_without e since h)
  pub state : state_at opening (undo_entry n ∷ since ++ e ∷ h) ≡ state_at opening (run_without e since h)

abbrev pub UndoneRunsAreRuns : Type 0
UndoneRunsAreRuns = (opening : State) (h since : History) (e : Entry) (n : ℕ)
    → IsUndoneAlone opening h since e n → IsRunWithout opening h since e n
