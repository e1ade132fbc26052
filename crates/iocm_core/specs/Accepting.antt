-- What the acceptance of a change, or its beginning, does to an installation.
use Rattle.std.specs.Prelude.{◌≡◌, ℕ, ◌+◌, [], ◌∷◌, ◌++◌, length, Ok, Some, None, IsTrue}
use Rattle.iocm_model.specs.Operation.State.{State}
use Rattle.iocm_model.specs.Change.Tree.{ChangeTree}
use Rattle.iocm_model.specs.Change.Meaning.{Performed, meaning}
use Rattle.iocm_history.specs.Change.{Change}
use Rattle.iocm_activate.specs.declared.done.Done.{Done}
use Rattle.iocm_journal.specs.Accepting.{Accepts}
use Rattle.iocm_journal.specs.Moving.{KeepsTheSame}
use Rattle.iocm_stage.specs.Staged.{Tells, IsStageOf}
use Rattle.iocm_stage.specs.declared.staged.Staged.{Staged}
use Rattle.iocm_core.specs.declared.installation.Installation.{Installation}

-- an installation has the same journal, and knows the same of changes; memory doesn't count
pub record KeepsTheRest (old new : Installation) : Type 0 where
  pub journal : KeepsTheSame old.journal new.journal
  pub changes : new.changes.items ≡ old.changes.items

-- there is memory for one more change
pub record HasRoomForAChange (i : Installation) : Type 0 where
  pub changes : IsTrue i.changes.has_room
  pub journal : IsTrue i.journal.has_room

-- an installation accepts a change that was done: it knows what that wrote, and its journal accepts
-- it
pub record AcceptsOne (done : Done) (old new : Installation) : Type 0 where
  pub changes : new.changes.items ≡ old.changes.items ++ done.effect ∷ []
  pub journal : Accepts done.inverse done.performed old.journal new.journal

-- a change was accepted with this number, and the machine is then in this state
pub record IsAccepted (c : Change) (state : State) (old : Installation) (n : ℕ) (new : Installation) : Type 0 where
  pub done : Done
  pub tells : Tells done c
  pub accepts : AcceptsOne done old new
  pub number : n ≡ length old.journal.changes + 1
  pub stage : new.stage ≡ None
  pub state_is : new.plant.state ≡ state

-- a tree was activated with this number
pub record IsActivated (t : ChangeTree) (old : Installation) (n : ℕ) (new : Installation) : Type 0 where
  pub performed : Performed
  pub means : meaning t old.plant.state ≡ Ok performed
  pub accepted : IsAccepted (record { edits = performed.edits; from = old.plant.state }) performed.state old n new

-- a tree was begun, with so many edits
pub record IsBegun (t : ChangeTree) (old : Installation) (edits : ℕ) (new : Installation) : Type 0 where
  pub performed : Performed
  pub means : meaning t old.plant.state ≡ Ok performed
  pub edits_are : edits ≡ length performed.edits
  pub staged : Staged
  pub stage : new.stage ≡ Some staged
  pub is : IsStageOf staged
      (record { change = record { edits = performed.edits; from = old.plant.state }; advances = 0 })
      old.plant.state new.plant
  pub rest : KeepsTheRest old new
  pub room : HasRoomForAChange new
