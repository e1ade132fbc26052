use Rattle.std.proofs.Common.{fold, sym, ap, ◌∙◌}
use Rattle.std.specs.Option.{option_copied, option_map}
use Rattle.iocm_record.specs.Meaning.{device_of}
use Rattle.iocm_seats.specs.Listing.{with_seat}
use Rattle.iocm_seats.proofs.Listed.{none_there}
use Rattle.iocm_seats.proofs.opening.open_at.Goals as goal

pub returns-in_default-clause-seats : goal.returns-in_default-clause-seats
returns-in_default-clause-seats g c = sym
    (ap (fold with_seat c.args.seats.now.seats) (none_there c.args.at.now c.args.sights.now c.requires
    (sym c.fields.ensures ∙ ap (λ o. option_map device_of (option_copied o)) c.in_default.is)))
