use Rattle.std.proofs.Common.{rules, List, sym, ap, subst, ◌∙◌}
use Rattle.std.specs.List.{filter_map}
use Rattle.std.specs.List.Sorted.{IsStrictlySortedBy}
use Rattle.std.specs.FinMap.{get}
use Rattle.std.proofs.lemmas.Result.{IfOk-weaker}
use Rattle.iocm_types.specs.declared.place.NumberCell.{NumberCell}
use Rattle.iocm_types.specs.Place.{cell_cmp}
use Rattle.iocm_model.specs.Machine.View.{view_at}
use Rattle.iocm_seats.specs.Seated.{views_seated}
use Rattle.iocm_seats.specs.Changes.{candidates, change_at}
use Rattle.iocm_seats.specs.Sights.{AreSights, cells_of_sights}
use Rattle.iocm_seats.proofs.Ordered.{candidates_rise, all_changes_seen}
use Rattle.iocm_seats.proofs.Sighted.{same_cells, all_sights}
use Rattle.iocm_seats.proofs.changes.list_changes.Goals as goal

pub list_at_images-requires : goal.list_at_images-requires
list_at_images-requires g c =
    let sights = subst (AreSights c.args.tried.now.config.now.records c.args.tried.now.numbers.now.numbers)
    (sym (c.as_slice.ensures.value ∙ c.in_ok-sights.ensures))
    (all_sights c.args.tried.now.config.now.records c.args.tried.now.numbers.now.numbers c.args.cells.now) in
    let order = subst (IsStrictlySortedBy cell_cmp)
    (sym (ap cells_of_sights (c.as_slice.ensures.value ∙ c.in_ok-sights.ensures)
    ∙ same_cells c.args.tried.now.config.now.records c.args.tried.now.numbers.now.numbers c.args.cells.now))
    c.requires.cells in search rules

pub returns-clause-changes : goal.returns-clause-changes
returns-clause-changes g c = IfOk-weaker c.list_at_images.result _ _ (λ altered h. h
    ∙ ap (λ (cells : List NumberCell). filter_map (change_at (get (views_seated c.args.tried.now.seats.now.seats))
    (view_at c.args.tried.now.config.now.records c.args.tried.now.numbers.now.numbers))
    (candidates c.args.images.now cells))
    (ap cells_of_sights (c.as_slice.ensures.value ∙ c.in_ok-sights.ensures)
    ∙ same_cells c.args.tried.now.config.now.records c.args.tried.now.numbers.now.numbers c.args.cells.now)
    ∙ all_changes_seen (views_seated c.args.tried.now.seats.now.seats) c.args.tried.now.config.now.records
    c.args.tried.now.numbers.now.numbers
    (candidates c.args.images.now c.args.cells.now) c.has_own_keys.ensures
    (candidates_rise c.args.images.now c.args.cells.now c.requires.images c.requires.cells) c.requires.all)
    c.list_at_images.ensures.changes
