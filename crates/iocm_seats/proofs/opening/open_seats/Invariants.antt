-- The seats so far, and those of the channel subsystems that are left.
use Rattle.std.proofs.Common.{◌≡◌, drop, fold}
use Rattle.std.specs.List.{flat_map}
use Rattle.std.specs.FinMap.{empty, entries}
use Rattle.iocm_model.specs.Machine.Numbering.{cells_of}
use Rattle.iocm_seats.specs.Listing.{subsystem_seats, with_seat}
use Rattle.iocm_seats.proofs.opening.open_seats.Given as goal

abbrev pub invariant-loop-css : goal.invariant-loop-css
invariant-loop-css g l = let of = subsystem_seats l.config.records (entries (cells_of l.numbers.numbers)) in
    fold with_seat l.seats.seats (flat_map of (drop l.css-index l.css-items))
    ≡ fold with_seat empty (flat_map of l.css-items)
