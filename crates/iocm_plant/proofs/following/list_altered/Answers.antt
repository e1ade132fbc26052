use Rattle.std.proofs.Common.{List, sym, ap, subst, ◌∙◌}
use Rattle.std.specs.FinMap.{get}
use Rattle.std.specs.List.{list_any}
use Rattle.std.specs.Ordering.{eq_by_cmp}
use Rattle.iocm_types.specs.declared.image.Image.{Image}
use Rattle.iocm_types.specs.declared.place.NumberCell.{NumberCell}
use Rattle.iocm_types.specs.Place.{cell_cmp}
use Rattle.iocm_model.specs.Machine.View.{view_at}
use Rattle.iocm_seats.specs.Changes.{AreCandidates, candidates}
use Rattle.iocm_seats.specs.Seated.{views_seated}
use Rattle.iocm_plant.proofs.Follows.{all_looked_at}
use Rattle.iocm_plant.proofs.following.list_altered.Goals as goal

pub list_changes-requires-clause-all : goal.list_changes-requires-clause-all
list_changes-requires-clause-all c =
    subst (λ (xs : List Image × List NumberCell). AreCandidates (get (views_seated c.args.seats.now.seats))
    (view_at c.args.config.now.records c.args.numbers.now.numbers) (candidates xs.0 xs.1))
    (sym (λ i. (c.as_slice.ensures.value i, c.as_slice-2.ensures.value i)))
    (all_looked_at c.args.config.now.records c.args.numbers.now.numbers c.args.seats.now.seats c.args.at
    c.args.given.now c.in_ok-cells.cells.items c.requires.changed
    (λ cell. c.in_ok-cells.ensures.same cell ∙ ap (list_any (eq_by_cmp cell_cmp cell)) c.in_ok-list_given.ensures))
