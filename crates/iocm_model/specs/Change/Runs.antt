-- Runs of edits, one after the other: what they do, whether they are accepted, what they write, and
-- their inverses.
use Rattle.std.specs.Prelude.{List, [], ◌∷◌, ◌++◌, ◌≡◌, false, None}
use Rattle.iocm_model.specs.Operation.State.{State}
use Rattle.iocm_model.specs.Change.Edit.{Edit, state_after, config_after}
use Rattle.iocm_model.specs.Change.Effect.{Cells, Effect, values_in, no_cells, both_cells, cells_written}
use Rattle.iocm_model.specs.Change.Refusal.{is_number_taken, refusal_of}
use Rattle.iocm_model.specs.Change.Inverse.{inverse_of}

-- the state after edits, one after the other
abbrev pub state_after_all : List Edit → State → State
state_after_all [] s = s
state_after_all (e ∷ es) s = state_after_all es (state_after e s)

-- edits are accepted one after the other
abbrev pub AreAccepted : List Edit → State → Type 0
AreAccepted [] s = Unit {0}
AreAccepted (e ∷ es) s = (refusal_of e s ≡ None) × AreAccepted es (state_after e s)

-- of edits, one after the other, none carries a number that is taken
abbrev pub CarryFreeNumbers : List Edit → State → Type 0
CarryFreeNumbers [] s = Unit {0}
CarryFreeNumbers (e ∷ es) s = (is_number_taken (config_after e.action s.config) s.numbers e.places ≡ false)
    × CarryFreeNumbers es (state_after e s)

-- the cells that they write, also where one puts back what another wrote
abbrev pub cells_written_by_all : List Edit → State → Cells
cells_written_by_all [] s = no_cells
cells_written_by_all (e ∷ es) s = both_cells (cells_written e s) (cells_written_by_all es (state_after e s))

-- the effect of edits: these cells with their values afterwards
abbrev pub effect_of : List Edit → State → Effect
effect_of es s = values_in (state_after_all es s) (cells_written_by_all es s)

-- the inverses of edits that were performed from a state on, the last first
abbrev pub inverses : List Edit → State → List Edit
inverses [] s = []
inverses (e ∷ es) s = inverses es (state_after e s) ++ (inverse_of e s ∷ [])
