use Rattle.std.proofs.Common.{Some, sym, ap, ◌∙◌}
use Rattle.std.specs.Option.{option_copied}
use Rattle.iocm_seats.proofs.Settled.{live_in, live_seated}
use Rattle.iocm_seats.proofs.seats.Seats.live.Goals as goal

pub returns-in-Some : goal.returns-in-Some
returns-in-Some g c = ap Some c.live.ensures ∙ ap live_in (ap option_copied (sym c.in-Some.is) ∙ c.get.ensures)
    ∙ sym (live_seated c.args.self.now.seats c.args.subchannel)

pub returns-in-None : goal.returns-in-None
returns-in-None g c = ap live_in (ap option_copied (sym c.in-None.is) ∙ c.get.ensures)
    ∙ sym (live_seated c.args.self.now.seats c.args.subchannel)
