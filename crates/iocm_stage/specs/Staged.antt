-- A change in stages on a machine.
use Rattle.std.specs.Prelude.{◌≡◌, ◌+◌, ◌≤◌, true, length, reverse, take, drop}
use Rattle.std.specs.FinMap.{get}
use Rattle.std.specs.Vec.{vec_capacity}
use Rattle.iocm_types.specs.declared.sub_id.SubId.{SubId}
use Rattle.iocm_model.specs.Operation.State.{State, HasConfigAndNumbersOf, is_among}
use Rattle.iocm_model.specs.Change.InverseTree.{inverse_tree}
use Rattle.iocm_model.specs.Change.Runs.{state_after_all, AreAccepted}
use Rattle.iocm_model.specs.Laws.Trees.{KeepsTheRules}
use Rattle.iocm_history.specs.Change.{Change, altered, effect_of_change}
use Rattle.iocm_history.specs.InUse.{IsInUse}
use Rattle.iocm_history.specs.Stage.{Stage}
use Rattle.iocm_tree.specs.Trees.{plain_tree, tree_of}
use Rattle.iocm_plant.specs.Operating.{Operating}
use Rattle.iocm_activate.specs.Done.{AreToldBy}
use Rattle.iocm_activate.specs.Effects.{effect_in}
use Rattle.iocm_activate.specs.Told.{told_of_all}
use Rattle.iocm_activate.specs.declared.done.Done.{Done}
use Rattle.iocm_stage.specs.Along.{StandsAlong}
use Rattle.iocm_stage.specs.declared.staged.Staged.{Staged}

-- a change was made: in a state in use its edits were accepted, and they left one in which the
-- rules hold
pub record WasMade (c : Change) : Type 0 where
  pub used : IsInUse c.from
  pub accepted : AreAccepted c.edits c.from
  pub rules : KeepsTheRules (state_after_all c.edits c.from)

-- a change can be made in a state as it was made: the configuration and the numbers are those of
-- then, and so are the live records of the subchannels that it alters
pub record IsReady (c : Change) (s : State) : Type 0 where
  pub made : WasMade c
  pub like : HasConfigAndNumbersOf s c.from
  pub lives : (x : SubId) → is_among x (altered c) ≡ true → get s.lives x ≡ get c.from.lives x

-- what is told of a change: the tree that takes it back, its effect, and what each edit did
pub record Tells (d : Done) (c : Change) : Type 0 where
  pub inverse : plain_tree (tree_of d.inverse) ≡ inverse_tree c.edits c.from
  pub effect : effect_in d.effect ≡ effect_of_change c
  pub performed : AreToldBy d.performed.items (told_of_all c.edits c.from)

-- there is memory for all edits both ways
pub record HasRoomBothWays (g : Staged) : Type 0 where
  pub back : length g.back.items + length g.forward.items ≤ vec_capacity g.back
  pub forward : length g.back.items + length g.forward.items ≤ vec_capacity g.forward

-- this is a stage on a machine, which would be in a state in which the change can be made, were it
-- not for the edits that were advanced
pub record IsStageOf (g : Staged) (t : Stage) (before : State) (p : Operating) : Type 0 where
  pub ready : IsReady t.change before
  pub tells : Tells g.done t.change
  pub along : StandsAlong (take t.advances t.change.edits) (drop t.advances t.change.edits) t.change.from before
      (reverse g.back.items) (reverse g.forward.items) p
  pub room : HasRoomBothWays g

-- it is a stage of some change
pub record IsStaged (g : Staged) (p : Operating) : Type 0 where
  pub stage : Stage
  pub before : State
  pub is : IsStageOf g stage before p
