use Rattle.std.proofs.Common.{rules, ◌≡◌, List, [], ◌∷◌, ap, ◌∙◌}
use Rattle.std.specs.List.{filter_map}
use Rattle.std.specs.FinMap.{get}
use Rattle.std.proofs.lemmas.List.Elements.{filter_map-append}
use Rattle.iocm_model.specs.Machine.View.{view_at}
use Rattle.iocm_reach.specs.SightedCells.{SightedCell, sighted_cell}
use Rattle.iocm_seats.specs.Seated.{views_seated}
use Rattle.iocm_seats.specs.Changes.{change_at, candidates}
use Rattle.iocm_seats.specs.Sights.{cells_of_sights, IsIn, IsNamedAt}
use Rattle.iocm_seats.proofs.Loops.{candidates_cell, listed_more, opened}
use Rattle.iocm_seats.proofs.changes.list_at_cells.Goals as goal

pub list_at_cell-requires : goal.list_at_cell-requires
list_at_cell-requires g c =
    let sight = (opened (λ (s : SightedCell).
    s ≡ sighted_cell c.args.tried.now.config.now.records c.args.tried.now.numbers.now.numbers s.cell)
    c.args.sights.now c.loop-sight.sight-index
    c.sight-item.result c.loop-sight-test.true c.sight-item.is c.loop-sight.invariant.sights).0 in
    let own = (opened (IsIn c.args.named.now.image.css) c.args.sights.now c.loop-sight.sight-index
    c.sight-item.result c.loop-sight-test.true c.sight-item.is c.loop-sight.invariant.own).0 in
    let name = (opened (IsNamedAt c.args.named.now.image c.args.named.now.name) c.args.sights.now
    c.loop-sight.sight-index
    c.sight-item.result c.loop-sight-test.true c.sight-item.is c.loop-sight.invariant.name).0 in search rules

pub loop-sight-preserved : goal.loop-sight-preserved
loop-sight-preserved g c =
    let change = change_at (get (views_seated c.args.tried.now.seats.now.seats))
    (view_at c.args.tried.now.config.now.records c.args.tried.now.numbers.now.numbers) in
    let one = c.args.named.now.image ∷ [] in record {
      left = listed_more (λ (sights : List SightedCell). filter_map change (candidates one (cells_of_sights sights)))
          (λ x xs. ap (filter_map change) (candidates_cell c.args.named.now.image x.cell (cells_of_sights xs))
          ∙ filter_map-append change (candidates one (x.cell ∷ [])) (candidates one (cells_of_sights xs)))
          c.args.sights.now c.loop-sight.sight-index c.sight-item.result c.loop-sight-test.true c.sight-item.is
          c.loop-sight.altered.changes.items c.list_at_cell.new.altered.changes.items _
          c.in_ok-list_at_cell.ensures.changes c.loop-sight.invariant.left;
      met = c.in_ok-list_at_cell.ensures.met;
      own = (opened (IsIn c.args.named.now.image.css) c.args.sights.now c.loop-sight.sight-index
          c.sight-item.result c.loop-sight-test.true c.sight-item.is c.loop-sight.invariant.own).1;
      name = (opened (IsNamedAt c.args.named.now.image c.args.named.now.name) c.args.sights.now c.loop-sight.sight-index
          c.sight-item.result c.loop-sight-test.true c.sight-item.is c.loop-sight.invariant.name).1;
      sights = (opened (λ (s : SightedCell).
          s ≡ sighted_cell c.args.tried.now.config.now.records c.args.tried.now.numbers.now.numbers s.cell)
          c.args.sights.now
          c.loop-sight.sight-index c.sight-item.result c.loop-sight-test.true c.sight-item.is
          c.loop-sight.invariant.sights).1;
    }
