-- Effects: which cells of a state a change wrote, with the value after it; and what writing them
-- does.
use Rattle.std.specs.Prelude.{ℕ, ◌==◌, List, [], ◌∷◌, ◌++◌, Option}
use Rattle.std.specs.FinMap.{FinMap, entries}
use Rattle.iocm_types.specs.declared.key.Key.{Key}
use Rattle.iocm_types.specs.declared.live.Live.{Live}
use Rattle.iocm_types.specs.declared.place.NumberCell.{NumberCell}
use Rattle.iocm_types.specs.declared.sub_id.SubId.{SubId}
use Rattle.iocm_types.specs.Key.{key_cmp}
use Rattle.iocm_types.specs.Place.{cell_cmp}
use Rattle.iocm_types.specs.SubId.{sub_id_cmp}
use Rattle.iocm_model.specs.Machine.Record.{Rec}
use Rattle.iocm_model.specs.Change.Maps.{with_cells, cells_at, differing}
use Rattle.iocm_model.specs.Machine.Numbering.{cells_of, numbering_of}
use Rattle.iocm_model.specs.Operation.State.{State}
use Rattle.iocm_model.specs.Change.Edit.{Edit, action_key, state_after, altered_between}

-- cells of a state: keys of records, number cells, and subchannels
pub record Cells : Type 0 where
  pub keys : List Key
  pub numbers : List NumberCell
  pub subchannels : List SubId

-- cells with their values: records, the devices that have numbers, and live records, absent
-- included
pub record Effect : Type 0 where
  pub records : FinMap key_cmp (Option Rec)
  pub numbers : FinMap cell_cmp (Option ℕ)
  pub lives : FinMap sub_id_cmp (Option Live)

-- these cells as they are in a state
abbrev pub values_in : State → Cells → Effect
values_in s w = record {
  records = cells_at s.config w.keys;
  numbers = cells_at (cells_of s.numbers) w.numbers;
  lives = cells_at s.lives w.subchannels;
}

-- the state with an effect: these cells are overwritten
abbrev pub with_effect : Effect → State → State
with_effect f s = record {
  config = with_cells (entries f.records) s.config;
  numbers = numbering_of (with_cells (entries f.numbers) (cells_of s.numbers));
  lives = with_cells (entries f.lives) s.lives;
}

-- no cells; the cells of one and of another
abbrev pub no_cells : Cells
no_cells = record { keys = []; numbers = []; subchannels = [] }

abbrev pub both_cells : Cells → Cells → Cells
both_cells v w = record {
  keys = v.keys ++ w.keys;
  numbers = v.numbers ++ w.numbers;
  subchannels = v.subchannels ++ w.subchannels;
}

-- the cells that an edit writes: its key, the number cells that it changes, and the subchannels
-- that it alters
abbrev pub cells_written : Edit → State → Cells
cells_written e s = let t = state_after e s in record {
  keys = action_key e.action ∷ [];
  numbers = differing ◌==◌ (cells_of s.numbers) (cells_of t.numbers);
  subchannels = altered_between s t;
}
