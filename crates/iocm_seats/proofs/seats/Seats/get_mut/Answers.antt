use Rattle.std.proofs.Common.{refl, ap, ◌∙◌}
use Rattle.std.specs.FinMap.{get}
use Rattle.iocm_seats.specs.Seated.{Seated}
use Rattle.iocm_seats.proofs.Lending.{seat_changed, seats_unchanged}
use Rattle.iocm_seats.proofs.seats.Seats.get_mut.Goals as goal

pub returns : goal.returns
returns g c = (
  (
    refl,
    (λ w. seat_changed c.self.inside.grid (c.get_mut.follows.lender w) c.args.self.now c.self.view_is c.get_mut.result
        c.args.subchannel.now w (c.get_mut.follows.holds w)),
    seats_unchanged c.self.inside.grid c.get_mut.follows.lender-at-none c.args.self.now c.self.view_is
        c.get_mut.follows.holds-at-none,
  ),
  record {
    writes_back = tt;
    value = c.get_mut.ensures.value ∙ ap (λ (s : Seated). get s.seats c.args.subchannel.now) c.self.view_is;
  },
)
