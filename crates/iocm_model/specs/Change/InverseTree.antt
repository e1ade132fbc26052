-- The tree that takes a change back.
use Rattle.std.specs.Prelude.{◌≡◌, List, [], ◌∷◌, Some}
use Rattle.iocm_model.specs.Operation.State.{State, HasConfigAndNumbersOf}
use Rattle.iocm_model.specs.Change.Edit.{Edit}
use Rattle.iocm_model.specs.Change.Refusal.{AreQuiet}
use Rattle.iocm_model.specs.Change.Effect.{values_in, with_effect}
use Rattle.iocm_model.specs.Change.Runs.{state_after_all, cells_written_by_all, inverses}
use Rattle.iocm_model.specs.Change.Tree.{ChangeTree, Parts, leaf, row, none, part}
use Rattle.iocm_model.specs.Change.Meaning.{meaning, state_reached}

-- edits as the parts of a node
abbrev pub parts_of : List Edit → Parts
parts_of [] = none
parts_of (e ∷ es) = part (leaf e) (parts_of es)

-- the inverse tree: one Row of the inverses
abbrev pub inverse_tree : List Edit → State → ChangeTree
inverse_tree es s = row (parts_of (inverses es s))

-- a tree takes edits back that were performed from a state on: at every state with the
-- configuration and the numbers after them in which the altered subchannels are quiet, it is
-- accepted, and means that state with the cells that they wrote as these were before
abbrev pub TakesBack : ChangeTree → List Edit → State → Type 0
TakesBack p es s = (u : State) → HasConfigAndNumbersOf u (state_after_all es s)
    → AreQuiet u.lives (cells_written_by_all es s).subchannels
    → state_reached (meaning p u) ≡ Some (with_effect (values_in s (cells_written_by_all es s)) u)
