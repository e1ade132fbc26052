-- The channel subsystems so far, with any others: where they have those of the images that are left,
-- they have those of all. All images that are left stand together.
use Rattle.std.proofs.Common.{◌++◌, ℕ, List}
use Rattle.iocm_seats.specs.Listing.{AreSubsystemsOf}
use Rattle.iocm_seats.proofs.ImagesTogether.{IsPast, images_in, records_in}
use Rattle.iocm_seats.proofs.Together.{StandTogether}
use Rattle.iocm_seats.proofs.image_subsystems.image_subsystems.Given as goal

abbrev pub invariant-loop-key : goal.invariant-loop-key
invariant-loop-key g l = record {
  known : (more : List ℕ) → AreSubsystemsOf (records_in l.key-iterator) (l.subsystems.items ++ more)
      → AreSubsystemsOf (records_in l.initial.key-iterator) (l.subsystems.items ++ more);
  together : StandTogether IsPast images_in l.key-iterator;
}
