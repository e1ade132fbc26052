-- Seats: what a machine keeps at its subchannels, the view and the live record of each.
use Rattle.std.specs.Prelude.{◌≡◌, true, T, List, map}
use Rattle.std.specs.List.{list_any}
use Rattle.std.specs.Ordering.{eq_by_cmp}
use Rattle.std.specs.FinMap.{FinMap, contains_key, entries, from_entries}
use Rattle.iocm_types.specs.declared.sub_id.SubId.{SubId}
use Rattle.iocm_types.specs.declared.view.View.{View}
use Rattle.iocm_types.specs.SubId.{sub_id_cmp}
use Rattle.iocm_model.specs.Operation.Orders.{fresh}
use Rattle.iocm_model.specs.Operation.State.{Lives, Views}
use Rattle.iocm_seats.specs.declared.seat.Seat.{Seat}

-- the seats by subchannel
abbrev pub Seats : Type 0
Seats = FinMap sub_id_cmp Seat

-- what contracts see of the seats of a machine: the seats, and the subchannels that have a place
pub record Seated : Type 0 where
  pub seats : Seats
  pub places : List SubId

-- a subchannel has a place
abbrev pub HasPlace : Seated → SubId → Type 0
HasPlace s x = T (list_any (eq_by_cmp sub_id_cmp x) s.places)

-- a subchannel that has a seat has a place
abbrev pub SeatsHavePlaces : Seated → Type 0
SeatsHavePlaces s = (x : SubId) → contains_key s.seats x ≡ true → HasPlace s x

-- no subchannel loses its place
abbrev pub KeepsPlaces : Seated → Seated → Type 0
KeepsPlaces old new = (x : SubId) → HasPlace old x → HasPlace new x

-- what is seen at seats
abbrev pub views_seated : Seats → Views
views_seated seats = from_entries (map (λ (e : SubId × Seat). (e.0, e.1.view)) (entries seats))

-- their live records
abbrev pub lives_seated : Seats → Lives
lives_seated seats = from_entries (map (λ (e : SubId × Seat). (e.0, e.1.live)) (entries seats))

-- a seat for a subchannel that has a view, with a fresh live record
abbrev pub fresh_seat : SubId × View → SubId × Seat
fresh_seat row = (row.0, record { view = row.1; live = fresh row.1.pim })
