-- When an edit can be performed without memory: it takes another one back, and what it brings has a
-- place.
use Rattle.std.specs.Prelude.{◌≡◌, ◌&&◌, true, is_some}
use Rattle.std.specs.List.{AllByRecursion}
use Rattle.std.specs.FinMap.{contains_key}
use Rattle.iocm_types.specs.declared.sub_id.SubId.{SubId}
use Rattle.iocm_types.specs.Key.{key_cmp}
use Rattle.iocm_types.specs.SubId.{sub_id_cmp}
use Rattle.iocm_model.specs.Machine.Configuration.{Configuration}
use Rattle.iocm_model.specs.Machine.Numbering.{Numbering}
use Rattle.iocm_model.specs.Operation.State.{State, IsSound, is_among, seen_in}
use Rattle.iocm_model.specs.Change.Edit.{Edit, action_key, record_after, state_after, is_altered}
use Rattle.iocm_model.specs.Change.Inverse.{inverse_of, freed_numbers}
use Rattle.iocm_model.specs.Laws.Runs.{HasSameKeys}
use Rattle.iocm_tree.specs.Carried.{Carried}
use Rattle.iocm_plant.specs.Operating.{Room, Operating, HasPlaceIn, HasNamingRoom, HasNumberRoom}

-- an edit takes another one back, where the configuration and the numbers are those that the other
-- one left. It is the inverse of the other one, with its live records or any others of the same
-- subchannels. For its own way back it has room for the numbers that it frees, and for the
-- subchannels that it alters and finds
pub record TakesBack (i : Carried) (c : Configuration) (n : Numbering) : Type 0 where
  pub edit : Edit
  pub state : State
  pub sound : IsSound state
  pub is_config : c ≡ (state_after edit state).config
  pub is_numbers : n ≡ (state_after edit state).numbers
  pub action : i.edit.action ≡ (inverse_of edit state).action
  pub places : i.edit.places ≡ (inverse_of edit state).places
  pub lives : HasSameKeys i.edit.lives (inverse_of edit state).lives
  pub frees : i.frees ≡ freed_numbers n state.numbers
  pub meets : (x : SubId) → is_among x i.meets
      ≡ (is_altered state (state_after edit state) x && is_some (seen_in (state_after edit state) x))

-- what an edit brings has places: its key, its record's namings, its numbers, and the subchannels
-- of its live records
pub record HasRoomFor (i : Carried) (room : Room) : Type 0 where
  pub key : HasPlaceIn key_cmp room.keys (action_key i.edit.action)
  pub namings : HasNamingRoom room.namings (record_after i.edit.action)
  pub numbers : AllByRecursion (HasNumberRoom room) i.edit.places
  pub subchannels : (x : SubId) → contains_key i.edit.lives x ≡ true → HasPlaceIn sub_id_cmp room.subchannels x

-- an edit can be performed without memory on a machine, whatever its live records are
pub record CanUnapply (i : Carried) (p : Operating) : Type 0 where
  pub back : TakesBack i p.state.config p.state.numbers
  pub room : HasRoomFor i p.room
