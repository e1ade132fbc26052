-- Seats after a change of what is seen.
use Rattle.std.specs.Prelude.{◌≡◌, Option, Some, None, List, [], ◌∷◌, fold, map, filter, is_some, if◌then◌else◌}
use Rattle.std.specs.List.{filter_map, AllByRecursion}
use Rattle.std.specs.Option.{option_map}
use Rattle.std.specs.FinMap.{get}
use Rattle.iocm_types.specs.declared.live.Live.{Live}
use Rattle.iocm_types.specs.declared.sub_id.SubId.{SubId}
use Rattle.iocm_types.specs.declared.view.View.{View}
use Rattle.iocm_model.specs.Operation.State.{Lives, Views}
use Rattle.iocm_model.specs.Change.Edit.{live_of_altered, lives_after_edit}
use Rattle.iocm_model.specs.Change.Maps.{with_value}
use Rattle.iocm_model.specs.Change.Refusal.{is_not_quiet}
use Rattle.iocm_seats.specs.declared.seat.Seat.{Seat}
use Rattle.iocm_seats.specs.declared.view_change.ViewChange.{ViewChange}
use Rattle.iocm_seats.specs.Seated.{Seats, Seated, views_seated, lives_seated, HasPlace}
use Rattle.iocm_seats.specs.Changes.{changes_between}

-- the seat of an altered subchannel afterwards, if anything is seen there: with the live record
-- that an edit leaves it
abbrev pub seat_after : Option Seat → Option View → Option Live → Option Seat
seat_after old new kept =
    option_map
    (λ (w : View). record {
      view = w;
      live = live_of_altered (option_map (λ (s : Seat). s.view) old) w kept
          (option_map (λ (s : Seat). s.live) old);
    })
    new

-- the seats after a change at one subchannel
abbrev pub settled : Lives → Seats → ViewChange → Seats
settled kept seats ch =
    with_value seats ch.subchannel (seat_after (get seats ch.subchannel) ch.after (get kept ch.subchannel))

-- the seats after changes
abbrev pub settled_all : Lives → Seats → List ViewChange → Seats
settled_all kept seats changes = fold (settled kept) seats changes

-- each subchannel of these changes has a place
abbrev pub HavePlaces : Seated → List ViewChange → Type 0
HavePlaces s changes = AllByRecursion (λ ch. HasPlace s ch.subchannel) changes

-- the subchannels at which something is seen afterwards
abbrev pub subchannels_left : List ViewChange → List SubId
subchannels_left changes =
    map (λ (ch : ViewChange). ch.subchannel) (filter (λ (ch : ViewChange). is_some ch.after) changes)

-- the live records at the subchannels of changes, those of subchannels that have one
abbrev pub lives_met : Lives → List ViewChange → List (SubId × Live)
lives_met lives changes =
    filter_map (λ (ch : ViewChange). option_map (λ (l : Live). (ch.subchannel, l)) (get lives ch.subchannel))
    changes

-- this live record at the subchannels of changes
abbrev pub met_at : Live → List ViewChange → List (SubId × Live)
met_at live changes = map (λ (ch : ViewChange). (ch.subchannel, live)) changes

-- what was seen before these changes is what was seen at their subchannels
abbrev pub AreSeen : Views → List ViewChange → Type 0
AreSeen v changes = AllByRecursion (λ (ch : ViewChange). ch.before ≡ get v ch.subchannel) changes

-- the subchannel of the first of these live records that isn't quiet
abbrev pub first_busy : List (SubId × Live) → Option SubId
first_busy [] = None
first_busy (row ∷ met) = if is_not_quiet (Some row.1) then Some row.0 else first_busy met

-- seats that are settled by all changes between what they show and other views show these, and have
-- the live records after an edit
abbrev pub SettledSeatsShow : Type 0
SettledSeatsShow = (seats : Seats) (w : Views) (kept : Lives)
    → views_seated (settled_all kept seats (changes_between (views_seated seats) w)) ≡ w

abbrev pub SettledSeatsLive : Type 0
SettledSeatsLive = (seats : Seats) (w : Views) (kept : Lives)
    → lives_seated (settled_all kept seats (changes_between (views_seated seats) w))
    ≡ lives_after_edit (views_seated seats) w kept (lives_seated seats)
