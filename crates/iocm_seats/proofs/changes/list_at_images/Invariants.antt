-- The changes so far and those of the images that are left.
use Rattle.std.proofs.Common.{◌≡◌, ◌++◌, drop}
use Rattle.std.specs.List.{filter_map}
use Rattle.std.specs.FinMap.{get}
use Rattle.iocm_model.specs.Machine.View.{view_at}
use Rattle.iocm_seats.specs.Seated.{views_seated, lives_seated}
use Rattle.iocm_seats.specs.Settling.{lives_met}
use Rattle.iocm_seats.specs.Changes.{change_at, candidates}
use Rattle.iocm_seats.specs.Sights.{cells_of_sights, sights_in}
use Rattle.iocm_seats.proofs.changes.list_at_images.Given as goal

abbrev pub invariant-loop-image : goal.invariant-loop-image
invariant-loop-image g l =
    let change = change_at (get (views_seated l.tried.seats.now.seats))
    (view_at l.tried.config.now.records l.tried.numbers.now.numbers) in record {
      left : l.altered.changes.items
          ++ filter_map change (candidates (drop l.image-index l.images) (cells_of_sights l.sights))
          ≡ filter_map change (candidates l.images (cells_of_sights l.sights));
      own : l.own.sights.now ≡ sights_in l.own.css l.sights;
      names : l.names ≡ l.tried.config.now.records;
      met : l.altered.met.items ≡ lives_met (lives_seated l.tried.seats.now.seats) l.altered.changes.items;
    }
