-- The cells of a state: records by key, devices by number cell, live records by subchannel. Undo
-- strikes out changes that others followed, and then a device may stand in two number cells for a
-- while: a history is replayed on cells, and read as a state at its end.
use Rattle.std.specs.Prelude.{ℕ}
use Rattle.std.specs.FinMap.{FinMap, entries}
use Rattle.iocm_types.specs.Place.{cell_cmp}
use Rattle.iocm_model.specs.Machine.Configuration.{Configuration}
use Rattle.iocm_model.specs.Machine.Numbering.{cells_of, numbering_of}
use Rattle.iocm_model.specs.Operation.State.{State, Lives}
use Rattle.iocm_model.specs.Change.Maps.{with_cells}
use Rattle.iocm_model.specs.Change.Effect.{Effect}

-- which device each number is
abbrev pub NumberCells : Type 0
NumberCells = FinMap cell_cmp ℕ

pub record Store : Type 0 where
  pub records : Configuration
  pub numbers : NumberCells
  pub lives : Lives

-- the cells of a state, and the state that they are
abbrev pub store_of : State → Store
store_of s = record { records = s.config; numbers = cells_of s.numbers; lives = s.lives }

abbrev pub state_of : Store → State
state_of m = record { config = m.records; numbers = numbering_of m.numbers; lives = m.lives }

-- cells with an effect: those that it wrote are overwritten
abbrev pub store_with : Effect → Store → Store
store_with f m = record {
  records = with_cells (entries f.records) m.records;
  numbers = with_cells (entries f.numbers) m.numbers;
  lives = with_cells (entries f.lives) m.lives;
}
