use Rattle.std.proofs.Common.{sym, ◌∙◌}
use Rattle.iocm_seats.proofs.Settled.{seated_by_view}
use Rattle.iocm_seats.proofs.settling.make_place.Goals as goal

pub returns-then-is_some-clause-ok : goal.returns-then-is_some-clause-ok
returns-then-is_some-clause-ok g c = c.has_places.ensures c.args.change.now.subchannel
    (seated_by_view c.args.seats.now.seats c.args.change.now.subchannel c.args.change.now.before c.requires
    (sym c.is_some.ensures ∙ c.if-is_some.true))
