use Rattle.std.proofs.Common.{◌≡◌, Option, Some, option_map, sym, ap, subst, ◌∙◌}
use Rattle.std.specs.FinMap.{get, insert}
use Rattle.std.specs.Option.{option_copied_mut, OnSome}
use Rattle.iocm_types.specs.declared.live.Live.{Live}
use Rattle.iocm_types.specs.declared.view.View.{View}
use Rattle.iocm_model.specs.Change.Edit.{live_of_altered}
use Rattle.iocm_model.specs.Change.Maps.{with_value}
use Rattle.iocm_seats.specs.declared.seat.Seat.{Seat}
use Rattle.iocm_seats.specs.Lent.{IsChangedAt}
use Rattle.iocm_seats.specs.Settling.{seat_after}
use Rattle.iocm_seats.proofs.settling.settle.Goals as goal

-- a seat that is there is written over
pub returns-clause-seats : goal.returns-clause-seats
returns-clause-seats g c =
    let seats = c.args.seats.now.seats in
    let x = c.args.change.now.subchannel in
    let view = c.in-Some.view in
    let now = c.get_mut.follows.lender c.new-2.result in
    let found : Some c.in-Some-get_mut.seat.now ≡ get seats x =
    sym (ap option_copied_mut c.in-Some-get_mut.is) ∙ c.get_mut.ensures.value in
    (subst (λ o. OnSome o (IsChangedAt c.args.seats.now x now c.new-2.result)) c.in-Some-get_mut.is
    (c.get_mut.follows.holds c.new-2.result)).seats
    ∙ ap (insert seats x) c.new-2.ensures
    ∙ (λ i. insert seats x (seat_of view ((c.live_after-live-2.ensures ∙ ap (live_by view c.args.own) found) i)))
    ∙ (λ i. with_value seats x (seat_after (get seats x) (sym c.in-Some.is i) c.args.own))
  where
    seat_of : View → Live → Seat
    seat_of v l = record { view = v; live = l }

    live_by : View → Option Live → Option Seat → Live
    live_by v own old = live_of_altered (option_map (λ (s : Seat). s.view) old) v own
        (option_map (λ (s : Seat). s.live) old)

pub returns-clause-places : goal.returns-clause-places
returns-clause-places g c =
    let x = c.args.change.now.subchannel in
    let now = c.get_mut.follows.lender c.new-2.result in
    (subst (λ o. OnSome o (IsChangedAt c.args.seats.now x now c.new-2.result)) c.in-Some-get_mut.is
    (c.get_mut.follows.holds c.new-2.result)).places
