-- The images so far, and those of the records that are left, where all images stand together.
use Rattle.std.proofs.Common.{◌≡◌, ◌++◌}
use Rattle.iocm_seats.specs.Listing.{images_among, sights_of}
use Rattle.iocm_seats.proofs.ImagesTogether.{IsPast, images_in, records_in}
use Rattle.iocm_seats.proofs.Together.{StandTogether}
use Rattle.iocm_seats.proofs.subsystem_sights.subsystem_sights.Given as goal

abbrev pub invariant-loop-key : goal.invariant-loop-key
invariant-loop-key g l = record {
  sights : l.sights.items ++ sights_of l.config.records (images_among l.css (records_in l.key-iterator))
      ≡ sights_of l.config.records (images_among l.css (records_in l.initial.key-iterator));
  together : StandTogether IsPast images_in l.key-iterator;
}
