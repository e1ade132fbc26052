use Rattle.std.proofs.Common.{T, drop, fold, sym, ap, subst, ◌∙◌, ◌+◌, List}
use Rattle.std.specs.FinMap.{from_sorted, get}
use Rattle.iocm_model.specs.Change.Maps.{with_value}
use Rattle.std.specs.List.{list_any, AllByRecursion}
use Rattle.std.specs.Ordering.{eq_by_cmp}
use Rattle.iocm_types.specs.declared.sub_id.SubId.{SubId}
use Rattle.iocm_types.specs.SubId.{sub_id_cmp}
use Rattle.iocm_seats.specs.declared.view_change.ViewChange.{ViewChange}
use Rattle.iocm_seats.specs.Seated.{Seats, HasPlace}
use Rattle.iocm_seats.specs.Settling.{settled}
use Rattle.iocm_seats.proofs.Loops.{fold_open, opened}
use Rattle.iocm_seats.proofs.settling.settle_all.Goals as goal

pub loop-change-preserved : goal.loop-change-preserved
loop-change-preserved g c =
    let kept = from_sorted {R = sub_id_cmp} c.args.kept.now in
    let rest = drop (c.loop-change.change-index + 1) c.args.changes.now in record {
      left = ap (λ (m : Seats). fold (settled kept) m rest) (c.settle.ensures.seats
          ∙ ap (with_value c.loop-change.seats.seats c.change-item.result.subchannel)
          (c.live_brought-own.ensures (get c.loop-change.seats.seats c.change-item.result.subchannel)))
          ∙ fold_open (settled kept) c.loop-change.seats.seats c.args.changes.now c.loop-change.change-index
          c.change-item.result c.loop-change-test.true c.change-item.is
          ∙ c.loop-change.invariant.left;
      ready = subst (λ (ps : List SubId).
          AllByRecursion (λ (ch : ViewChange). T (list_any (eq_by_cmp sub_id_cmp ch.subchannel) ps)) rest)
          (sym c.settle.ensures.places)
          (opened (λ (ch : ViewChange). HasPlace c.loop-change.seats ch.subchannel) c.args.changes.now
          c.loop-change.change-index c.change-item.result
          c.loop-change-test.true c.change-item.is c.loop-change.invariant.ready).1;
      places = c.settle.ensures.places ∙ c.loop-change.invariant.places;
    }
