use Rattle.std.proofs.Common.{T, drop, fold, sym, ap, subst, ◌∙◌, ◌+◌, List}
use Rattle.std.specs.List.{list_any, AllByRecursion}
use Rattle.std.specs.Ordering.{eq_by_cmp}
use Rattle.iocm_types.specs.declared.live.Live.{Live}
use Rattle.iocm_types.specs.declared.sub_id.SubId.{SubId}
use Rattle.iocm_types.specs.SubId.{sub_id_cmp}
use Rattle.iocm_model.specs.Operation.State.{views_of}
use Rattle.iocm_reach.specs.Walked.{Walked}
use Rattle.iocm_seats.specs.Seated.{Seats, HasPlace}
use Rattle.iocm_seats.specs.Exchange.{given}
use Rattle.iocm_seats.proofs.Loops.{fold_open, opened}
use Rattle.iocm_seats.proofs.exchanging.give_all.Goals as goal

pub loop-row-preserved : goal.loop-row-preserved
loop-row-preserved g c =
    let w = views_of c.args.config.now.records c.args.numbers.now.numbers in
    let rest = drop (c.loop-row.row-index + 1) c.args.back.now in record {
      left = ap (λ (m : Seats). fold (given w) m rest)
          (c.give_one.ensures.seats
          ∙ ap (λ (v : Walked). given (views_of v.records v.numbers) c.loop-row.seats.seats c.row-item.result)
          c.loop-row.invariant.views)
          ∙ fold_open (given w) c.loop-row.seats.seats c.args.back.now c.loop-row.row-index c.row-item.result
          c.loop-row-test.true c.row-item.is
          ∙ c.loop-row.invariant.left;
      ready = subst (λ (ps : List SubId).
          AllByRecursion (λ (row : SubId × Live). T (list_any (eq_by_cmp sub_id_cmp row.0) ps)) rest)
          (sym c.give_one.ensures.places)
          (opened (λ (row : SubId × Live). HasPlace c.loop-row.seats row.0) c.args.back.now c.loop-row.row-index
          c.row-item.result c.loop-row-test.true c.row-item.is
          c.loop-row.invariant.ready).1;
      places = c.give_one.ensures.places ∙ c.loop-row.invariant.places;
      views = c.give_one.ensures.same ∙ c.loop-row.invariant.views;
    }
