-- An installation, which is a machine in operation with its journal and what is staged, beside the
-- history that it is of.
use Rattle.std.specs.Prelude.{◌≡◌, Option, None, Some, ◌∷◌}
use Rattle.iocm_types.specs.declared.answer.Answer.{Answer}
use Rattle.iocm_model.specs.Operation.State.{State}
use Rattle.iocm_history.specs.Entry as history
use Rattle.iocm_history.specs.Account.{state_at, stage_of}
use Rattle.iocm_history.specs.Legal.{IsRight}
use Rattle.iocm_history.specs.Stage.{Stage}
use Rattle.iocm_plant.specs.Operating.{Operating}
use Rattle.iocm_stage.specs.Staged.{IsStageOf}
use Rattle.iocm_stage.specs.declared.staged.Staged.{Staged}
use Rattle.iocm_journal.specs.Now.{IsJournalOf}
use Rattle.iocm_core.specs.Accepting.{HasRoomForAChange}
use Rattle.iocm_core.specs.Told.{entry_told}
use Rattle.iocm_core.specs.declared.installation.Installation.{Installation}

-- what is staged, if anything is, on a machine that would be in a state, were it not for the edits
-- that were advanced
abbrev pub IsStagedAs : Option Stage → Option Staged → State → Operating → Type 0
IsStagedAs None None s p = p.state ≡ s
IsStagedAs (Some t) (Some g) s p = IsStageOf g t s p
IsStagedAs _ _ s p = ⊥

-- while a change is staged there is memory for its acceptance
abbrev pub HasRoomFor : Option Staged → Installation → Type 0
HasRoomFor None i = Unit {0}
HasRoomFor (Some g) i = HasRoomForAChange i

-- an installation after a history from an opening state: its journal, what is staged, and the state
-- to which the history leads
pub record IsInstallationOf (opening : State) (h : history.History) (i : Installation) : Type 0 where
  pub journal : IsJournalOf opening h i.journal i.changes.items
  pub stage : IsStagedAs (stage_of opening h) i.stage (state_at opening h) i.plant
  pub room : HasRoomFor i.stage i

-- an installation that runs
pub record IsRunning (i : Installation) : Type 0 where
  pub opening : State
  pub history : history.History
  pub is : IsInstallationOf opening history i

-- a call was answered: its entry is right after the history, and the installation is then one of
-- the history with it
pub record IsAnswered (opening : State) (h : history.History) (call : history.Call) (answer : Answer)
    (i : Installation) : Type 0 where
  pub right : IsRight opening h (entry_told i.changes.items call answer)
  pub is : IsInstallationOf opening (entry_told i.changes.items call answer ∷ h) i

-- a call on an installation: whatever history it was of, it is of that with the call's entry then
abbrev pub Answers : history.Call → Answer → Installation → Installation → Type 0
Answers call answer old new = (opening : State) (h : history.History) → IsInstallationOf opening h old
    → IsAnswered opening h call answer new
