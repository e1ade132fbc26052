-- The seats so far, and those of the images that are left.
use Rattle.std.proofs.Common.{◌≡◌, drop, fold}
use Rattle.iocm_seats.specs.Listing.{cell_seats, with_seat}
use Rattle.iocm_seats.specs.Taken.{taken}
use Rattle.iocm_seats.proofs.opening.open_at.Given as goal

abbrev pub invariant-loop-place : goal.invariant-loop-place
invariant-loop-place g l = record {
  left : fold with_seat l.seats.seats (cell_seats (drop l.place l.initial.sights) (taken l.at))
      ≡ fold with_seat l.initial.seats.seats (cell_seats l.initial.sights (taken l.at));
  same : l.sights ≡ l.initial.sights;
}
