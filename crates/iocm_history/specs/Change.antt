-- An accepted change: the edits that were performed, and the state that they were performed in.
use Rattle.std.specs.Prelude.{Bool, ◌||◌, List, [], Ok, Err}
use Rattle.std.specs.List.{list_any}
use Rattle.std.specs.FinMap.{keys, contains_key}
use Rattle.iocm_types.specs.declared.sub_id.SubId.{SubId}
use Rattle.iocm_model.specs.Operation.State.{State}
use Rattle.iocm_model.specs.Change.Edit.{Edit}
use Rattle.iocm_model.specs.Change.Effect.{Cells, Effect, values_in}
use Rattle.iocm_model.specs.Change.Runs.{effect_of, cells_written_by_all}
use Rattle.iocm_model.specs.Change.Meaning.{Outcome}

pub record Change : Type 0 where
  pub edits : List Edit
  pub from : State

-- the change that a tree means in a state; a refused one has no edits
abbrev pub change_of : Outcome → State → Change
change_of (Ok r) s = record { edits = r.edits; from = s }
change_of (Err why) s = record { edits = []; from = s }

-- the cells that it wrote, with their values after it, and as they were before it
abbrev pub cells_of_change : Change → Cells
cells_of_change c = cells_written_by_all c.edits c.from

abbrev pub effect_of_change : Change → Effect
effect_of_change c = effect_of c.edits c.from

abbrev pub values_before : Change → Effect
values_before c = values_in c.from (cells_of_change c)

-- the subchannels that it altered
abbrev pub altered : Change → List SubId
altered c = keys (effect_of_change c).lives

-- two effects wrote a cell in common: a key, a number cell or a subchannel
abbrev pub share_a_cell : Effect → Effect → Bool
share_a_cell f g = list_any (contains_key g.records) (keys f.records)
    || list_any (contains_key g.numbers) (keys f.numbers)
    || list_any (contains_key g.lives) (keys f.lives)
