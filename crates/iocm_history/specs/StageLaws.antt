-- What changes in stages do in a legal history.
use Rattle.std.specs.Prelude.{◌≡◌, ℕ, Bool, true, false, Ok, ◌∷◌, ◌++◌, filter}
use Rattle.std.specs.List.{list_any}
use Rattle.iocm_types.specs.declared.answer.Answer.{Answer}
use Rattle.iocm_types.specs.declared.answer.Answer.TheVariants.{Changed, Staged, Aborted}
use Rattle.iocm_types.specs.declared.answer.Answer.TheVariants as answers
use Rattle.iocm_model.specs.Operation.State.{State}
use Rattle.iocm_model.specs.Change.Runs.{state_after_all, effect_of}
use Rattle.iocm_model.specs.Change.Tree.{ChangeTree}
use Rattle.iocm_model.specs.Change.Meaning.{Performed, meaning}
use Rattle.iocm_history.specs.Entry.{Call, at, begin, commit, abort, Entry, History, plain_entry}
use Rattle.iocm_history.specs.Account.{state_at}
use Rattle.iocm_history.specs.Legal.{IsLegal}
use Rattle.iocm_history.specs.InUse.{IsInUse}

-- a Begin of this many edits, and an Abort
abbrev pub begin_entry : ChangeTree → ℕ → Entry
begin_entry p k = plain_entry (begin p) (Staged k)

abbrev pub abort_entry : Entry
abort_entry = plain_entry abort Aborted

-- an answer that ends a stage
abbrev pub ends_a_stage : Answer → Bool
ends_a_stage (answers.Changed n) = true
ends_a_stage answers.Aborted = true
ends_a_stage _ = false

-- a step that was done, and not held
abbrev pub is_done : Call → Answer → Bool
is_done (at x made) answers.Held = false
is_done (at x made) _ = true
is_done _ _ = false

-- the steps of a history that were done
abbrev pub steps_of : History → History
steps_of h = filter (λ (e : Entry). is_done e.call e.answer) h

-- a change was begun, and an entry came, with no end of a stage between
pub record IsStagedUntil (opening : State) (h : History) (p : ChangeTree) (k : ℕ) (between : History)
    (e : Entry) : Type 0 where
  pub used : IsInUse opening
  pub legal : IsLegal opening (e ∷ between ++ begin_entry p k ∷ h)
  pub unended : list_any (λ (e : Entry). ends_a_stage e.answer) between ≡ false

-- an Abort leaves the other steps alone, answered as in the run that makes them without the Begin
pub record LeavesTheSteps (opening : State) (h between : History) (p : ChangeTree) (k : ℕ) : Type 0 where
  pub legal : IsLegal opening (steps_of between ++ h)
  pub state : state_at opening (abort_entry ∷ between ++ begin_entry p k ∷ h) ≡ state_at opening (steps_of between ++ h)

abbrev pub AbortLeavesTheOtherSteps : Type 0
AbortLeavesTheOtherSteps = (opening : State) (h between : History) (p : ChangeTree) (k : ℕ)
    → IsStagedUntil opening h p k between abort_entry → LeavesTheSteps opening h between p k

-- the Commit of a change: what its edits wrote at the Begin
abbrev pub commit_of : ℕ → Performed → State → Entry
commit_of n done s = record { call = commit; answer = Changed n; effect = effect_of done.edits s }

-- a Commit does the edits that the tree performed at its Begin, in the state that the other steps
-- leave
pub record DoesTheEdits (opening : State) (h between : History) (p : ChangeTree) (k n : ℕ) (done : Performed) :
    Type 0 where
  pub legal : IsLegal opening (steps_of between ++ h)
  pub state : state_at opening (commit_of n done (state_at opening h) ∷ between ++ begin_entry p k ∷ h)
      ≡ state_after_all done.edits (state_at opening (steps_of between ++ h))

abbrev pub CommitDoesTheEdits : Type 0
CommitDoesTheEdits = (opening : State) (h between : History) (p : ChangeTree) (k n : ℕ) (done : Performed)
    → meaning p (state_at opening h) ≡ Ok done
    → IsStagedUntil opening h p k between (commit_of n done (state_at opening h))
    → DoesTheEdits opening h between p k n done
