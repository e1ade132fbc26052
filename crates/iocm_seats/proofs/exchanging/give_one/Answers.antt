use Rattle.std.proofs.Common.{sym, ap, ◌∙◌}
use Rattle.std.specs.FinMap.{insert}
use Rattle.iocm_seats.specs.Exchange.{seat_given}
use Rattle.iocm_seats.proofs.Ordered.{seen_is}
use Rattle.iocm_seats.proofs.exchanging.give_one.Goals as goal

pub returns-in_default-clause-seats : goal.returns-in_default-clause-seats
returns-in_default-clause-seats g c = sym (ap (seat_given c.args.seats.now.seats c.args.row.now.0 c.args.row.now.1)
    (seen_is c.args.views.now.records c.args.views.now.numbers c.requires.keyed c.args.row.now.0
    ∙ sym c.view.ensures.view ∙ c.in_default.is))

pub returns-clause-seats : goal.returns-clause-seats
returns-clause-seats g c = c.put.ensures.seats ∙ ap (insert c.args.seats.now.seats c.args.row.now.0) c.new.ensures
    ∙ sym (ap (seat_given c.args.seats.now.seats c.args.row.now.0 c.args.row.now.1)
    (seen_is c.args.views.now.records c.args.views.now.numbers c.requires.keyed c.args.row.now.0
    ∙ sym c.view.ensures.view ∙ c.in-Some.is))
