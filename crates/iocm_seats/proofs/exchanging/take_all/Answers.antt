use Rattle.std.proofs.Common.{◌<◌, ◌≤◌, sym, ap, subst, ◌∙◌}
use Rattle.std.specs.FinMap.{remove}
use Rattle.iocm_types.specs.declared.live.Live.{Live}
use Rattle.iocm_types.specs.declared.sub_id.SubId.{SubId}
use Rattle.iocm_seats.specs.Seated.{lives_seated}
use Rattle.iocm_seats.specs.Exchange.{met}
use Rattle.iocm_seats.proofs.Taking.{taken_none, taken_more, taken_all}
use Rattle.iocm_seats.proofs.exchanging.take_all.Goals as goal

pub loop-place-init : goal.loop-place-init
loop-place-init g c = taken_none c.args.seats.now c.args.out.now

pub loop-place-preserved : goal.loop-place-preserved
loop-place-preserved g c =
    taken_more c.args.seats.now c.loop-place.seats c.take_one.new.seats c.args.out.now c.loop-place.out
    c.loop-place.place c.index-out-place.result
    c.take_one.new.row c.requires
    (subst (λ n. c.loop-place.place < n) (sym c.loop-place.auto.out) c.loop-place-test.true) c.index-out-place.is
    c.loop-place.invariant
    (c.take_one.ensures.seats
    ∙ ap (λ (z : SubId × Live). remove c.loop-place.seats.seats z.0) (sym c.index-out-place.is))
    (c.take_one.ensures.row ∙ ap (met (lives_seated c.loop-place.seats.seats)) (sym c.index-out-place.is))
    c.take_one.ensures.places

pub returns-clause-seats : goal.returns-clause-seats
returns-clause-seats g c =
    (taken_all c.args.seats.now c.loop-place.seats c.args.out.now c.loop-place.out c.loop-place.place
    (subst (λ n. n ≤ c.loop-place.place) (sym c.loop-place.auto.out) c.loop-place-test.false) c.loop-place.invariant).0

pub returns-clause-out : goal.returns-clause-out
returns-clause-out g c =
    (taken_all c.args.seats.now c.loop-place.seats c.args.out.now c.loop-place.out c.loop-place.place
    (subst (λ n. n ≤ c.loop-place.place) (sym c.loop-place.auto.out) c.loop-place-test.false) c.loop-place.invariant).1
