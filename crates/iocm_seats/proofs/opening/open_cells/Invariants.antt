-- The seats so far, and those at the cells that are left.
use Rattle.std.proofs.Common.{◌≡◌, drop, fold}
use Rattle.iocm_seats.specs.Listing.{cells_seats, with_seat}
use Rattle.iocm_seats.specs.Taken.{taken_of}
use Rattle.iocm_seats.proofs.opening.open_cells.Given as goal

abbrev pub invariant-loop-taken : goal.invariant-loop-taken
invariant-loop-taken g l = record {
  left : fold with_seat l.seats.seats (cells_seats l.initial.sights (taken_of (drop l.taken-index l.cells)))
      ≡ fold with_seat l.initial.seats.seats (cells_seats l.initial.sights (taken_of l.cells));
  same : l.sights ≡ l.initial.sights;
}
