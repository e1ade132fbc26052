-- The changes so far and those at the cells that are left.
use Rattle.std.proofs.Common.{◌≡◌, ◌∷◌, [], ◌++◌, drop}
use Rattle.std.specs.List.{filter_map, AllByRecursion}
use Rattle.std.specs.FinMap.{get}
use Rattle.iocm_model.specs.Machine.View.{view_at}
use Rattle.iocm_seats.specs.Seated.{views_seated, lives_seated}
use Rattle.iocm_seats.specs.Settling.{lives_met}
use Rattle.iocm_seats.specs.Changes.{change_at, candidates}
use Rattle.iocm_seats.specs.Sights.{cells_of_sights, AreSights, IsIn, IsNamedAt}
use Rattle.iocm_seats.proofs.changes.list_at_cells.Given as goal

abbrev pub invariant-loop-sight : goal.invariant-loop-sight
invariant-loop-sight g l =
    let change = change_at (get (views_seated l.tried.seats.now.seats))
    (view_at l.tried.config.now.records l.tried.numbers.now.numbers) in record {
      left : l.altered.changes.items
          ++ filter_map change (candidates (l.named.image ∷ []) (cells_of_sights (drop l.sight-index l.sights)))
          ≡ l.initial.altered.changes.items
          ++ filter_map change (candidates (l.named.image ∷ []) (cells_of_sights l.sights));
      met : l.altered.met.items ≡ lives_met (lives_seated l.tried.seats.now.seats) l.altered.changes.items;
      own : AllByRecursion (IsIn l.named.image.css) (drop l.sight-index l.sights);
      name : AllByRecursion (IsNamedAt l.named.image l.named.name) (drop l.sight-index l.sights);
      sights : AreSights l.tried.config.now.records l.tried.numbers.now.numbers (drop l.sight-index l.sights);
    }
