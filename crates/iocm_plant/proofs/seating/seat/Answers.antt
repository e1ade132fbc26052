use Rattle.std.proofs.Common.{◌∙◌}
use Rattle.std.specs.FinMap.{from_sorted}
use Rattle.iocm_types.specs.SubId.{sub_id_cmp}
use Rattle.iocm_seats.specs.Settling.{settled_all}
use Rattle.iocm_plant.proofs.seating.seat.Goals as goal

pub returns-clause-seats : goal.returns-clause-seats
returns-clause-seats c = c.settle_all.ensures.seats
    ∙ (λ i. settled_all (from_sorted {R = sub_id_cmp} c.args.kept.now) (c.in_ok-make_places.ensures.seats i)
    c.args.changes.now)
