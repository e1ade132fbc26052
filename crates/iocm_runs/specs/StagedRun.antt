-- The run without an undone change that was made in stages is a run: without its Begin and its
-- Commit.
use Rattle.std.specs.Prelude.{◌≡◌, ℕ, true, false, ◌∷◌, ◌++◌}
use Rattle.std.specs.List.{list_any}
use Rattle.iocm_types.specs.declared.answer.Answer.TheVariants.{Changed}
use Rattle.iocm_model.specs.Operation.State.{State}
use Rattle.iocm_model.specs.Change.Tree.{ChangeTree}
use Rattle.iocm_history.specs.Entry.{commit, Entry, History}
use Rattle.iocm_history.specs.Account.{state_at}
use Rattle.iocm_history.specs.Legal.{IsLegal}
use Rattle.iocm_history.specs.InUse.{IsInUse}
use Rattle.iocm_history.specs.StageLaws.{begin_entry, ends_a_stage, steps_of}
use Rattle.iocm_history.specs.UndoLaws.{undo_entry}
use Rattle.iocm_runs.specs.RunWithout.{leaves_changes, altered_by, steps_off}

-- a change was begun, and committed with no end of a stage between; it was undone, with no change
-- accepted, undone or redone between
pub record IsUndoneInStages (opening : State) (h between since : History) (p : ChangeTree) (k n : ℕ) (e : Entry)
    : Type 0 where
  pub used : IsInUse opening
  pub legal : IsLegal opening (undo_entry n ∷ since ++ (e ∷ between ++ begin_entry p k ∷ h))
  pub committed : e.call ≡ commit
  pub accepted : e.answer ≡ Changed n
  pub unended : list_any (λ (l : Entry). ends_a_stage l.answer) between ≡ false
  pub alone : leaves_changes since ≡ true

-- what is left of that history without the change: what was before its Begin, the steps that were
-- done until its Commit, and of what came since the steps that were done off its subchannels
abbrev pub run_without_stages : Entry → History → History → History → History
run_without_stages e since between h = steps_off (altered_by e) since ++ (steps_of between ++ h)

-- that run is legal, with the same answers, and leads to the state after the undo
pub record IsRunWithoutStages (opening : State) (h between since : History) (p : ChangeTree) (k n : ℕ)
    (e : Entry) : Type 0 where
  pub legal : IsLegal opening (run_without_stages e since between h)
  pub state : state_at opening (undo_entry n ∷ since ++ (e ∷ between ++ begin_entry p k ∷ h))
      ≡ state_at opening (run_without_stages e since between h)

abbrev pub StagedRunsAreRuns : Type 0
StagedRunsAreRuns = (opening : State) (h between since : History) (p : ChangeTree) (k n : ℕ) (e : Entry)
    → IsUndoneInStages opening h between since p k n e → IsRunWithoutStages opening h between since p k n e
