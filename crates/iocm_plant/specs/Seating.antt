-- What is told of seats that were settled.
use Rattle.std.specs.Prelude.{◌≡◌, List}
use Rattle.std.specs.Map.{keys_of}
use Rattle.iocm_types.specs.declared.live.Live.{Live}
use Rattle.iocm_types.specs.declared.sub_id.SubId.{SubId}
use Rattle.iocm_seats.specs.declared.view_change.ViewChange.{ViewChange}
use Rattle.iocm_seats.specs.Seated.{Seats, lives_seated}
use Rattle.iocm_seats.specs.Settling.{lives_met, subchannels_left}

-- the live records that the subchannels of these changes had are told, and which of these
-- subchannels are left
pub record TellsOfSettling (seats : Seats) (changes : List ViewChange) (kept meets : List (SubId × Live)) : Type 0 where
  pub kept_are : kept ≡ lives_met (lives_seated seats) changes
  pub meets_are : keys_of meets ≡ subchannels_left changes
