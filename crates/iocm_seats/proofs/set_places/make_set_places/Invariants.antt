-- No seat has changed, and each set that has ended so far has its place.
use Rattle.std.proofs.Common.{◌≡◌, drop}
use Rattle.std.specs.List.{AllByRecursion}
use Rattle.iocm_seats.specs.Seated.{Seated, HasPlace, KeepsPlaces}
use Rattle.iocm_seats.specs.Taken.{set_ends}
use Rattle.iocm_seats.proofs.set_places.make_set_places.Given as goal

abbrev pub invariant-loop-place : goal.invariant-loop-place
invariant-loop-place g l = record {
  seats : l.seats.seats ≡ l.initial.seats.seats;
  kept : KeepsPlaces l.initial.seats l.seats;
  places : (s : Seated) → KeepsPlaces l.seats s → AllByRecursion (HasPlace s) (set_ends (drop l.place l.cells))
      → AllByRecursion (HasPlace s) (set_ends l.cells);
}
