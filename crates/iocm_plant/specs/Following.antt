-- How the numbers and the seats follow a change of the configuration.
use Rattle.std.specs.Prelude.{◌≡◌, ℕ, true, List, map, Option, Some}
use Rattle.std.specs.List.Sorted.{IsStrictlySortedBy}
use Rattle.std.specs.Option.{option_or}
use Rattle.std.specs.FinMap.{get, from_sorted}
use Rattle.iocm_types.specs.declared.key.Key.{Key}
use Rattle.iocm_types.specs.declared.place.Place.{Place}
use Rattle.iocm_types.specs.declared.place.NumberCell.{NumberCell}
use Rattle.iocm_types.specs.Place.{place_cmp}
use Rattle.iocm_types.specs.SubId.{image_cmp}
use Rattle.iocm_types.specs.declared.refused.Refused.{Refused}
use Rattle.iocm_model.specs.Machine.Configuration.{Configuration, IsKeyed}
use Rattle.iocm_model.specs.Machine.Numbering.{Numbering, AreNumbersOf, is_reached_at}
use Rattle.iocm_model.specs.Operation.State.{views_of}
use Rattle.iocm_model.specs.Change.Inverse.{freed_numbers}
use Rattle.iocm_model.specs.Change.Refusal.{is_number_taken}
use Rattle.iocm_model.specs.Change.Renumbering.{numbers_after}
use Rattle.iocm_affected.specs.Affected.{AreAllAffected}
use Rattle.iocm_numbers.specs.LookedAt.{cells_at}
use Rattle.iocm_numbers.specs.Numbered.{cell_at}
use Rattle.iocm_numbers.specs.NumberChanges as numbers
use Rattle.iocm_seats.specs.declared.view_change.ViewChange.{ViewChange}
use Rattle.iocm_seats.specs.Changes as views
use Rattle.iocm_seats.specs.Seated.{Seats, views_seated}
use Rattle.iocm_seats.specs.Settling.{settled_all}
use Rattle.iocm_plant.specs.declared.following.Brought.{Brought}
use Rattle.iocm_plant.specs.declared.following.Followed.{Followed}
use Rattle.iocm_plant.specs.declared.following.LookedAt.{LookedAt}
use Rattle.iocm_plant.specs.declared.following.Told.{Told}
use Rattle.iocm_plant.specs.declared.quiet.Quiet.{Quiet}
use Rattle.iocm_plant.specs.InTheWay.{settling_refusal}
use Rattle.iocm_plant.specs.Refusing.{refusal_by_number}
use Rattle.iocm_plant.specs.Seating.{TellsOfSettling}

-- a configuration was changed, from one in which these are the numbers and the seats. The places
-- and images that are looked at are all that may be affected. The cells are those of the numbers at
-- these places
pub record WasChanged (d : Configuration) (n : Numbering) (seats : Seats) (at : LookedAt) : Type 0 where
  pub before : Configuration
  pub keyed : IsKeyed before
  pub numbered : AreNumbersOf before n
  pub seated : views_seated seats ≡ views_of before n
  pub affected : AreAllAffected before d at.affected.places.items at.affected.images.items
  pub cells_are : at.cells.items ≡ cells_at n at.affected.places.items

-- the numbers have followed it: those of devices that stay are as they were, and these were given
pub record WasRenumbered (d : Configuration) (m : Numbering) (seats : Seats) (at : LookedAt)
    (given : List (Place × ℕ)) : Type 0 where
  pub first : Numbering
  pub changed : WasChanged d first seats at
  pub now_numbered : AreNumbersOf d m
  pub stay : (p : Place) (k : ℕ) → is_reached_at d p ≡ true → get first p ≡ Some k → get m p ≡ Some k
  pub given_are : given ≡ freed_numbers m first

-- the number cells of numbers that were given
abbrev pub cells_given : List (Place × ℕ) → List NumberCell
cells_given given = map (λ (row : Place × ℕ). cell_at row.0 row.1) given

-- the places that are looked at are in order, and so are the images
abbrev pub ArePlacesInOrder : LookedAt → Type 0
ArePlacesInOrder at = IsStrictlySortedBy place_cmp at.affected.places.items

abbrev pub AreImagesInOrder : LookedAt → Type 0
AreImagesInOrder at = IsStrictlySortedBy image_cmp at.affected.images.items

-- what is seen differently from what seats show
abbrev pub seen_changes : Configuration → Numbering → Seats → List ViewChange
seen_changes d m seats = views.changes_between (views_seated seats) (views_of d m)

-- the seats once they have followed: settled by all that is seen differently, with the live records
-- that come along
abbrev pub seats_after : Configuration → Numbering → Brought → Seats → Seats
seats_after d m brought seats = settled_all (from_sorted brought.kept.items) seats (seen_changes d m seats)

-- what is told of seats that have followed: the live records that altered subchannels had, which of
-- these are left, and how each was altered
pub record TellsOfSeats (d : Configuration) (m : Numbering) (seats : Seats) (told : Told) : Type 0 where
  pub settled : TellsOfSettling seats (seen_changes d m seats) told.kept.items told.meets.items
  pub subchannels : told.touched.subchannels.items ≡ seen_changes d m seats

-- what is told of numbers and seats that have followed: the numbers freed and given, the number
-- cells that changed, and what is told of seats
pub record TellsAll (d : Configuration) (n m : Numbering) (seats : Seats) (f : Followed) : Type 0 where
  pub freed : f.renumbered.freed.items ≡ freed_numbers n m
  pub given : f.renumbered.given.items ≡ freed_numbers m n
  pub cells : f.told.touched.numbers.items ≡ numbers.changes_between n m
  pub altered : TellsOfSeats d m seats f.told

-- why seats don't follow: an altered subchannel that has to be quiet isn't
abbrev pub seating_refusal : Configuration → Numbering → Seats → Quiet → Option Refused
seating_refusal d m seats quiet = settling_refusal seats (seen_changes d m seats) quiet

-- why numbers and seats don't follow: a number that comes along is taken, or else the seats don't
abbrev pub following_refusal : Configuration → Numbering → Seats → Key → List (Place × ℕ) → Quiet → Option Refused
following_refusal d n seats key carried quiet =
    option_or (refusal_by_number key (is_number_taken d n carried))
    (seating_refusal d (numbers_after d carried n) seats quiet)

-- the same of what comes along with an edit
abbrev pub refusal_with : Configuration → Numbering → Seats → Brought → Option Refused
refusal_with d n seats brought = following_refusal d n seats brought.key brought.places.items brought.quiet
