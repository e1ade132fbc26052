-- A journal beside the history that it is of, and beside the machine.
use Rattle.std.specs.Prelude.{◌≡◌, ℕ, ◌+◌, length, map, reverse, Some, None}
use Rattle.std.specs.List.{slice_get, AllByRecursion}
use Rattle.iocm_model.specs.Operation.State.{State}
use Rattle.iocm_history.specs.Entry.{History}
use Rattle.iocm_history.specs.Account.{state_at, stage_of}
use Rattle.iocm_history.specs.Journal.{journal_of}
use Rattle.iocm_history.specs.Legal.{IsLegal}
use Rattle.iocm_history.specs.InUse.{IsInUse}
use Rattle.iocm_activate.specs.declared.effect.Effect.{Effect}
use Rattle.iocm_plant.specs.Operating.{Operating}
use Rattle.iocm_journal.specs.Kept.{IsKept, IsRedoable}
use Rattle.iocm_journal.specs.declared.kept.Kept.{Kept}
use Rattle.iocm_journal.specs.declared.kept.Undone.{Undone}
use Rattle.iocm_journal.specs.Journaled.{Journaled}
use Rattle.std.specs.Prelude.{List}

-- a journal and what each change wrote, after a legal history from a state in use: each change is
-- kept at its place, counted from 1; so many stand; those that are undone and not past stand in the
-- order of their undos
pub record IsJournalOf (opening : State) (h : History) (j : Journaled) (fs : List Effect) : Type 0 where
  pub used : IsInUse opening
  pub legal : IsLegal opening h
  pub count : (journal_of h).count ≡ length j.changes
  pub effects : length fs ≡ length j.changes
  pub kept : (n : ℕ) (k : Kept) (f : Effect) → slice_get j.changes n ≡ Some k → slice_get fs n ≡ Some f
      → IsKept opening h (n + 1) k f
  pub standing : j.standing ≡ length (journal_of h).standing
  pub undone : map (λ (u : Undone). u.number) j.undone ≡ reverse (journal_of h).undone
  pub redoable : AllByRecursion (IsRedoable opening h) j.undone

-- and beside a machine that is in the state to which the history leads, with no change staged
pub record IsNow (opening : State) (h : History) (j : Journaled) (fs : List Effect) (p : Operating) : Type 0 where
  pub journal : IsJournalOf opening h j fs
  pub idle : stage_of opening h ≡ None
  pub state : p.state ≡ state_at opening h

-- a journal, what each change wrote, and a machine belong together
pub record BelongTogether (j : Journaled) (fs : List Effect) (p : Operating) : Type 0 where
  pub opening : State
  pub history : History
  pub now : IsNow opening history j fs p
