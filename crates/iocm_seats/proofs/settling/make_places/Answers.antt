use Rattle.std.proofs.Common.{◌≡◌, drop_of_length-le, sym, ap, subst, ◌∙◌}
use Rattle.std.specs.FinMap.{get}
use Rattle.iocm_types.proofs.Lists.{drop-item}
use Rattle.iocm_seats.specs.declared.view_change.ViewChange.{ViewChange}
use Rattle.iocm_seats.specs.Seated.{Seats, views_seated}
use Rattle.iocm_seats.specs.Settling.{HavePlaces}
use Rattle.iocm_seats.proofs.Loops.{opened}
use Rattle.iocm_seats.proofs.settling.make_places.Goals as goal

pub make_place-requires : goal.make_place-requires
make_place-requires g c =
    (opened (λ (ch : ViewChange). ch.before ≡ get (views_seated c.args.seats.now.seats) ch.subchannel)
    c.args.changes.now c.loop-change.change-index
    c.change-item.result c.loop-change-test.true c.change-item.is c.loop-change.invariant.seen).0
    ∙ ap (λ (m : Seats). get (views_seated m) c.change-item.result.subchannel) (sym c.loop-change.invariant.seats)

pub loop-change-preserved : goal.loop-change-preserved
loop-change-preserved g c = record {
  seats = c.make_place.ensures.seats ∙ c.loop-change.invariant.seats;
  kept = λ x has. c.make_place.ensures.kept x (c.loop-change.invariant.kept x has);
  all = λ t more rest. c.loop-change.invariant.all t (λ x has. more x (c.make_place.ensures.kept x has))
      (subst (HavePlaces t) (sym
      (drop-item c.args.changes.now c.loop-change.change-index c.change-item.result c.loop-change-test.true
      c.change-item.is))
      (more c.change-item.result.subchannel c.in_ok-make_place.ensures.ok, rest));
  seen = (opened (λ (ch : ViewChange). ch.before ≡ get (views_seated c.args.seats.now.seats) ch.subchannel)
      c.args.changes.now c.loop-change.change-index
      c.change-item.result c.loop-change-test.true c.change-item.is c.loop-change.invariant.seen).1;
}

pub returns-clause-ok : goal.returns-clause-ok
returns-clause-ok g c = c.loop-change.invariant.all c.loop-change.seats (λ x has. has)
    (subst (HavePlaces c.loop-change.seats) (sym (drop_of_length-le c.args.changes.now c.loop-change-test.false)) tt)
