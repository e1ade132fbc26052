-- What happens while a change is staged.
use Rattle.std.specs.Prelude.{◌≡◌, false, Some}
use Rattle.iocm_types.specs.declared.sub_id.SubId.{SubId}
use Rattle.iocm_model.specs.Operation.State.{State}
use Rattle.iocm_model.specs.Operation.Step.{Step, after_step, answer_in}
use Rattle.iocm_history.specs.Stage.{Stage, is_held}
use Rattle.iocm_plant.specs.Operating.{Operating, KeepsRoom}
use Rattle.iocm_stage.specs.Staged.{IsStageOf}
use Rattle.iocm_stage.specs.declared.staged.Staged.{Staged}

-- a step leaves a stage one, with the step done in the state before the edits that were advanced,
-- too, and is answered as in that state
pub record PassesAStage (g : Staged) (t : Stage) (s : State) (x : SubId) (step : Step) (p q : Operating) : Type 0 where
  pub stage : IsStageOf g t (after_step x step s) q
  pub answer : answer_in p.state x step ≡ answer_in s x step

-- steps on subchannels that aren't held do
abbrev pub StepsElsewherePassAStage : Type 0
StepsElsewherePassAStage = (g : Staged) (t : Stage) (s : State) (x : SubId) (step : Step) (p q : Operating)
    → IsStageOf g t s p → is_held x (Some t) ≡ false → q.state ≡ after_step x step p.state → KeepsRoom p.room q.room
    → PassesAStage g t s x step p q
