-- The effect of a change as it is in memory: the cells that it wrote, in order, with their values.
-- Then the effects of several changes.
use Rattle.std.specs.Prelude.{Bool, List, map}
use Rattle.std.specs.List.{flat_map}
use Rattle.iocm_types.specs.declared.place.NumberCell.{NumberCell}
use Rattle.iocm_types.specs.declared.sub_id.SubId.{SubId}
use Rattle.iocm_types.specs.Key.{key_cmp}
use Rattle.iocm_types.specs.Place.{cell_cmp}
use Rattle.iocm_types.specs.SubId.{sub_id_cmp}
use Rattle.iocm_model.specs.Change.Effect as model
use Rattle.iocm_numbers.specs.declared.number_change.NumberChange.{NumberChange}
use Rattle.iocm_seats.specs.declared.view_change.ViewChange.{ViewChange}
use Rattle.iocm_activate.specs.Cells.{cells_in}
use Rattle.iocm_activate.specs.Told.{Told, told_in}
use Rattle.iocm_activate.specs.declared.effect.Effect.{Effect}
use Rattle.iocm_activate.specs.declared.log.Log.{Log}

-- the model's effect
abbrev pub effect_in : Effect → model.Effect
effect_in e = record {
  records = cells_in key_cmp e.records;
  numbers = cells_in cell_cmp e.numbers;
  lives = cells_in sub_id_cmp e.lives;
}

-- the number cells that edits changed, and the subchannels that they altered
abbrev pub cells_changed : List NumberChange → List NumberCell
cells_changed changes = map (λ (c : NumberChange). c.cell) changes

abbrev pub numbers_told : List Told → List NumberCell
numbers_told told = flat_map (λ (t : Told). cells_changed t.numbers) told

abbrev pub subchannels_changed : List ViewChange → List SubId
subchannels_changed changes = map (λ (c : ViewChange). c.subchannel) changes

abbrev pub subchannels_told : List Told → List SubId
subchannels_told told = flat_map (λ (t : Told). subchannels_changed t.subchannels) told

-- the cells that the edits of a log wrote
abbrev pub cells_told : Log → model.Cells
cells_told log = let told = map told_in log.done.items in record {
  keys = log.keys.items;
  numbers = numbers_told told;
  subchannels = subchannels_told told;
}

-- what contracts see of the effects of changes: the effects in the order of the changes, and
-- whether there is room for one more
pub record Listed : Type 0 where
  pub items : List Effect
  pub has_room : Bool
