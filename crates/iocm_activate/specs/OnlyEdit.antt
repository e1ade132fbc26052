-- The effect of a change of one edit, by what is told of the edit.
use Rattle.std.specs.Prelude.{◌≡◌, ℕ, false, List, Option, None, is_some}
use Rattle.std.specs.FinMap.{get}
use Rattle.iocm_types.specs.declared.key.Key.{Key}
use Rattle.iocm_types.specs.declared.live.Live.{Live}
use Rattle.iocm_types.specs.declared.place.NumberCell.{NumberCell}
use Rattle.iocm_types.specs.declared.sub_id.SubId.{SubId}
use Rattle.iocm_model.specs.Change.Effect.{Cells}
use Rattle.iocm_model.specs.Machine.Numbering.{Numbering}
use Rattle.iocm_model.specs.Operation.State.{Lives, State, Views, views_in}
use Rattle.iocm_numbers.specs.declared.number_change.NumberChange.{NumberChange}
use Rattle.iocm_numbers.specs.NumberChanges as numbers
use Rattle.iocm_seats.specs.declared.view_change.ViewChange.{ViewChange}
use Rattle.iocm_seats.specs.Changes as views
use Rattle.iocm_plant.specs.declared.touched.Touched.{Touched}
use Rattle.iocm_activate.specs.Effects.{cells_changed, subchannels_changed}

-- what is told is how some numbers and some views of before differ from those of a state
pub record TellsOf (d : Touched) (now : State) : Type 0 where
  pub numbers_before : Numbering
  pub views_before : Views
  pub numbers : d.numbers.items ≡ numbers.changes_between numbers_before now.numbers
  pub views : d.subchannels.items ≡ views.changes_between views_before (views_in now)

-- these keys, with the number cells and subchannels that are told
abbrev pub cells_of_one : List Key → Touched → Cells
cells_of_one keys d = record {
  keys = keys;
  numbers = cells_changed d.numbers.items;
  subchannels = subchannels_changed d.subchannels.items;
}

-- a number cell with the device that has it afterwards
abbrev pub holder_after : NumberChange → NumberCell × Option ℕ
holder_after change = (change.cell, change.after)

-- a subchannel with its live record
abbrev pub live_at : Lives → ViewChange → SubId × Option Live
live_at lives change = (change.subchannel, get lives change.subchannel)

-- where nothing is seen after a change, there is no live record
abbrev pub LivesIfSeen : Lives → ViewChange → Type 0
LivesIfSeen lives change = is_some change.after ≡ false → get lives change.subchannel ≡ None
