-- A machine in operation, as a value: its state, and what has a place in its tables and so can be
-- put in without memory.
use Rattle.std.specs.Prelude.{◌≡◌, ℕ, T, List, Option, None, Some}
use Rattle.std.specs.List.{list_any, AllByRecursion}
use Rattle.std.specs.Ordering.{eq_by_cmp}
use Rattle.std.specs.declared.cmp.Ordering.{Ordering}
use Rattle.iocm_types.specs.declared.key.Key.{Key}
use Rattle.iocm_types.specs.declared.naming.Naming.{Naming}
use Rattle.iocm_types.specs.declared.place.Place.{Place}
use Rattle.iocm_types.specs.declared.place.NumberCell.{NumberCell}
use Rattle.iocm_types.specs.declared.sub_id.SubId.{SubId}
use Rattle.iocm_types.specs.Key.{key_cmp}
use Rattle.iocm_types.specs.Naming.{naming_cmp}
use Rattle.iocm_types.specs.Place.{place_cmp, cell_cmp}
use Rattle.iocm_types.specs.SubId.{sub_id_cmp}
use Rattle.iocm_table.specs.Slots.{Stored}
use Rattle.iocm_model.specs.Machine.Record.{Rec}
use Rattle.iocm_model.specs.Machine.Configuration.{Configuration, IsKeyed}
use Rattle.iocm_model.specs.Machine.Numbering.{Numbering, AreNumbersOf}
use Rattle.iocm_model.specs.Operation.State.{State, views_of}
use Rattle.iocm_config.specs.Stored as config
use Rattle.iocm_index.specs.Namings.{namings_of}
use Rattle.iocm_lookup.specs.Indexed.{IsIndexOf}
use Rattle.iocm_numbers.specs.Numbered.{Numbered, cell_at}
use Rattle.iocm_seats.specs.Seated.{Seats, Seated, views_seated, lives_seated}

-- what has a place: keys of records, places of devices with number cells, namings, and subchannels
pub record Room : Type 0 where
  pub keys : List Key
  pub places : List Place
  pub cells : List NumberCell
  pub namings : List Naming
  pub subchannels : List SubId

-- a machine in operation
pub record Operating : Type 0 where
  pub state : State
  pub room : Room

-- a key of a table has a place
abbrev pub HasPlaceIn : {K : Type 0} → (K → K → Ordering) → List K → K → Type 0
HasPlaceIn R places key = T (list_any (eq_by_cmp R key) places)

-- a number can be given to a place, as far as places go
pub record HasNumberRoom (room : Room) (row : Place × ℕ) : Type 0 where
  pub of_place : HasPlaceIn place_cmp room.places row.0
  pub of_cell : HasPlaceIn cell_cmp room.cells (cell_at row.0 row.1)

-- the namings of a record that comes, if one comes, have places
abbrev pub HasNamingRoom : List Naming → Option Rec → Type 0
HasNamingRoom places None = Unit {0}
HasNamingRoom places (Some r) = AllByRecursion (HasPlaceIn naming_cmp places) (namings_of r)

-- whatever has a place in one list has one in another
abbrev pub KeepsPlaces : {K : Type 0} → (K → K → Ordering) → List K → List K → Type 0
KeepsPlaces {K} R old new = (key : K) → HasPlaceIn R old key → HasPlaceIn R new key

-- no place is lost
pub record KeepsRoom (old new : Room) : Type 0 where
  pub same_keys : KeepsPlaces key_cmp old.keys new.keys
  pub same_numbers : (row : Place × ℕ) → HasNumberRoom old row → HasNumberRoom new row
  pub same_namings : KeepsPlaces naming_cmp old.namings new.namings
  pub same_subchannels : KeepsPlaces sub_id_cmp old.subchannels new.subchannels

-- the state that a configuration, numbers and seats are
abbrev pub state_of : Configuration → Numbering → Seats → State
state_of c n seats = record { config = c; numbers = n; lives = lives_seated seats }

-- the places of the tables
abbrev pub room_of : config.Stored → Numbered → Stored Naming (Unit {0}) → Seated → Room
room_of c n index seats = record {
  keys = c.places;
  places = n.place_room;
  cells = n.cell_room;
  namings = index.places;
  subchannels = seats.places;
}

abbrev pub operating_of : config.Stored → Numbered → Stored Naming (Unit {0}) → Seated → Operating
operating_of c n index seats = record {
  state = state_of c.records n.numbers seats.seats;
  room = room_of c n index seats;
}

-- what always holds of the tables: each record stands under its own key, and the numbers are those
-- of the configuration. The index tells who names whom in it, and the seats show what is seen
pub record IsOperating (c : Configuration) (n : Numbering) (index : Stored Naming (Unit {0}))
    (seats : Seats) : Type 0 where
  pub keyed : IsKeyed c
  pub numbered : AreNumbersOf c n
  pub indexed : IsIndexOf c index
  pub seated : views_seated seats ≡ views_of c n
