-- What edits promise, one after the other: states that stay sound, what they write, and that they
-- can be taken back.
use Rattle.std.specs.Prelude.{◌≡◌, List}
use Rattle.std.specs.List.{list_any}
use Rattle.std.specs.Ordering.{eq_by_cmp}
use Rattle.std.specs.FinMap.{contains_key}
use Rattle.iocm_types.specs.declared.key.Key.{Key}
use Rattle.iocm_types.specs.declared.place.NumberCell.{NumberCell}
use Rattle.iocm_types.specs.declared.sub_id.SubId.{SubId}
use Rattle.iocm_types.specs.Key.{key_cmp}
use Rattle.iocm_types.specs.Place.{cell_cmp}
use Rattle.iocm_model.specs.Machine.Configuration.{Configuration, IsKeyed}
use Rattle.iocm_model.specs.Change.Maps.{cells_at}
use Rattle.iocm_model.specs.Operation.State.{State, Lives, IsSound, HasConfigAndNumbersOf, opening_state, is_among}
use Rattle.iocm_model.specs.Change.Edit.{Edit, state_after, altered_by}
use Rattle.iocm_model.specs.Change.Refusal.{AreQuiet}
use Rattle.iocm_model.specs.Change.Inverse.{inverse_of}
use Rattle.iocm_model.specs.Change.Runs.{inverses, state_after_all, cells_written_by_all}
use Rattle.iocm_model.specs.Change.Runs.{effect_of, AreAccepted, CarryFreeNumbers}
use Rattle.iocm_model.specs.Change.Effect.{Cells, values_in, with_effect, cells_written}

abbrev pub AcceptedCarryFreeNumbers : Type 0
AcceptedCarryFreeNumbers = (es : List Edit) (s : State) → AreAccepted es s → CarryFreeNumbers es s

-- the state at opening is sound, and edits leave a sound state, busy or not
abbrev pub OpeningIsSound : Type 0
OpeningIsSound = (c : Configuration) → IsKeyed c → IsSound (opening_state c)

abbrev pub StaysSound : Type 0
StaysSound = (es : List Edit) (s : State) → IsSound s → CarryFreeNumbers es s → IsSound (state_after_all es s)

-- what edits do is to overwrite the cells of their effect
abbrev pub WritesItsEffect : Type 0
WritesItsEffect = (es : List Edit) (s : State) → IsSound s → CarryFreeNumbers es s
    → with_effect (effect_of es s) s ≡ state_after_all es s

-- and to overwrite these cells as they were gives back the state
abbrev pub PutsBack : Type 0
PutsBack = (es : List Edit) (s : State) → IsSound s
    → with_effect (values_in s (cells_written_by_all es s)) (state_after_all es s) ≡ s

-- live records of the same subchannels
abbrev pub HasSameKeys : Lives → Lives → Type 0
HasSameKeys a b = (x : SubId) → contains_key a x ≡ contains_key b x

-- there and back: where the configuration and the numbers are those after an edit, its inverse
-- gives back the cells that the edit wrote, and for the subchannels that it altered the live
-- records that are kept in it: those from before, or any others of the same subchannels
abbrev pub GoesBack : Type 0
GoesBack = (e : Edit) (s u : State) (carried : Lives) → IsSound s → HasConfigAndNumbersOf u (state_after e s)
    → HasSameKeys carried (inverse_of e s).lives
    → state_after (record (inverse_of e s) { lives = carried }) u
    ≡ with_effect (record (values_in s (cells_written e s)) { lives = cells_at carried (altered_by e s) }) u

-- the same for a run of edits and their inverses, the last first
abbrev pub RunGoesBack : Type 0
RunGoesBack = (es : List Edit) (s u : State) → IsSound s → CarryFreeNumbers es s
    → HasConfigAndNumbersOf u (state_after_all es s)
    → state_after_all (inverses es s) u ≡ with_effect (values_in s (cells_written_by_all es s)) u

-- each of them is accepted where the altered subchannels are quiet
abbrev pub InversesAreAccepted : Type 0
InversesAreAccepted = (es : List Edit) (s u : State) → IsSound s → AreAccepted es s
    → HasConfigAndNumbersOf u (state_after_all es s)
    → AreQuiet u.lives (cells_written_by_all es s).subchannels → AreAccepted (inverses es s) u

-- the same cells, in any order and number
pub record HasSameCells (v w : Cells) : Type 0 where
  pub keys : (key : Key) → list_any (eq_by_cmp key_cmp key) v.keys ≡ list_any (eq_by_cmp key_cmp key) w.keys
  pub numbers : (cell : NumberCell)
      → list_any (eq_by_cmp cell_cmp cell) v.numbers ≡ list_any (eq_by_cmp cell_cmp cell) w.numbers
  pub subchannels : (x : SubId) → is_among x v.subchannels ≡ is_among x w.subchannels

-- and they write the same cells
abbrev pub InversesWriteTheSame : Type 0
InversesWriteTheSame = (es : List Edit) (s u : State) → IsSound s → CarryFreeNumbers es s
    → HasConfigAndNumbersOf u (state_after_all es s)
    → HasSameCells (cells_written_by_all (inverses es s) u) (cells_written_by_all es s)
