use Rattle.std.proofs.Common.{sym, ◌∙◌}
use Rattle.iocm_seats.proofs.Taking.{met_seat, met_none}
use Rattle.iocm_seats.proofs.exchanging.take_one.Goals as goal

pub returns-in-Some-clause-row : goal.returns-in-Some-clause-row
returns-in-Some-clause-row g c = (λ i. (c.args.row.now.0, c.live-row.ensures i))
    ∙ sym (met_seat c.args.seats.now.seats c.args.row.now c.in-Some.seat (sym c.take.ensures.before ∙ c.in-Some.is))

pub returns-in_default-clause-row : goal.returns-in_default-clause-row
returns-in_default-clause-row g c =
    sym (met_none c.args.seats.now.seats c.args.row.now (sym c.take.ensures.before ∙ c.in_default.is))
