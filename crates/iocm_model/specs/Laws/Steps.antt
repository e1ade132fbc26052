-- What steps promise: states that stay sound, and that a step on a subchannel that a change doesn't
-- alter passes its effect.
use Rattle.std.specs.Prelude.{◌≡◌, true, false, List}
use Rattle.iocm_types.specs.declared.sub_id.SubId.{SubId}
use Rattle.iocm_model.specs.Operation.State.{State, IsSound, is_among}
use Rattle.iocm_model.specs.Change.Edit.{Edit}
use Rattle.iocm_model.specs.Change.Effect.{Cells, Effect, values_in, with_effect}
use Rattle.iocm_model.specs.Change.Runs.{state_after_all, cells_written_by_all, effect_of, CarryFreeNumbers}
use Rattle.iocm_model.specs.Operation.Step.{Step, answer_in, after_step}

-- steps leave a sound state
abbrev pub StepsStaySound : Type 0
StepsStaySound = (x : SubId) (step : Step) (s : State) → IsSound s → IsSound (after_step x step s)

-- a step and the writing of an effect in either order: the same state and the same answer
pub record Passes (x : SubId) (step : Step) (f : Effect) (u : State) : Type 0 where
  pub state : after_step x step (with_effect f u) ≡ with_effect f (after_step x step u)
  pub answer : answer_in (with_effect f u) x step ≡ answer_in u x step

-- a step on a subchannel that a change doesn't alter passes its effect, and passes the taking back
abbrev pub StepsElsewherePass : Type 0
StepsElsewherePass = (es : List Edit) (s u : State) (x : SubId) (step : Step) → IsSound s → CarryFreeNumbers es s
    → u.config ≡ s.config → u.numbers ≡ s.numbers
    → is_among x (cells_written_by_all es s).subchannels ≡ false → Passes x step (effect_of es s) u

abbrev pub StepsElsewherePassBack : Type 0
StepsElsewherePassBack = (es : List Edit) (s u : State) (x : SubId) (step : Step) → IsSound s
    → u.config ≡ (state_after_all es s).config → u.numbers ≡ (state_after_all es s).numbers
    → is_among x (cells_written_by_all es s).subchannels ≡ false
    → Passes x step (values_in s (cells_written_by_all es s)) u

-- a step on a subchannel whose cell is overwritten leaves no trace
abbrev pub OverwrittenStepsVanish : Type 0
OverwrittenStepsVanish = (s u : State) (w : Cells) (x : SubId) (step : Step) → is_among x w.subchannels ≡ true
    → with_effect (values_in s w) (after_step x step u) ≡ with_effect (values_in s w) u
