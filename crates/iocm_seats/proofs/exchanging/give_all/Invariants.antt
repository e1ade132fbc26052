-- The rows that are left give what all give, and their subchannels have places; the views are those
-- of the configuration and the numbers.
use Rattle.std.proofs.Common.{◌≡◌, drop, fold}
use Rattle.std.specs.List.{AllByRecursion}
use Rattle.iocm_types.specs.declared.live.Live.{Live}
use Rattle.iocm_types.specs.declared.sub_id.SubId.{SubId}
use Rattle.iocm_model.specs.Operation.State.{views_of}
use Rattle.iocm_seats.specs.Seated.{HasPlace}
use Rattle.iocm_seats.specs.Exchange.{given}
use Rattle.iocm_seats.proofs.exchanging.give_all.Given as goal

abbrev pub invariant-loop-row : goal.invariant-loop-row
invariant-loop-row g l = let w = views_of l.config.records l.numbers.numbers in record {
  left : fold (given w) l.seats.seats (drop l.row-index l.back) ≡ fold (given w) l.initial.seats.seats l.back;
  ready : AllByRecursion (λ (row : SubId × Live). HasPlace l.seats row.0) (drop l.row-index l.back);
  places : l.seats.places ≡ l.initial.seats.places;
  views : l.views ≡ record { records = l.config.records; numbers = l.numbers.numbers };
}
