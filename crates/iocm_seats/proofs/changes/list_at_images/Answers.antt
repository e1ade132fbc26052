use Rattle.std.proofs.Common.{rules, ◌≡◌, List, [], ◌∷◌, ◌++◌, sym, ap, subst, ◌∙◌}
use Rattle.std.specs.List.{filter_map, AllByRecursion}
use Rattle.std.specs.FinMap.{get}
use Rattle.std.proofs.lemmas.List.Elements.{filter_map-append}
use Rattle.iocm_types.specs.declared.image.Image.{Image}
use Rattle.iocm_model.specs.Machine.View.{view_at}
use Rattle.iocm_reach.specs.SightedCells.{SightedCell, sighted_cell}
use Rattle.iocm_seats.specs.Seated.{views_seated}
use Rattle.iocm_seats.specs.Changes.{change_at, candidates}
use Rattle.iocm_seats.specs.Sights.{cells_of_sights, AreSights, IsIn, sights_in}
use Rattle.iocm_seats.proofs.Loops.{candidates_image, listed_more}
use Rattle.iocm_seats.proofs.Named.{same_records}
use Rattle.iocm_seats.proofs.OwnSights.{all_own, are_own, same_candidates}
use Rattle.iocm_seats.proofs.changes.list_at_images.Goals as goal

pub name_for-requires : goal.name_for-requires
name_for-requires g c =
    let c0 = c.args.tried.now.config.now.records in
    let n0 = c.args.tried.now.numbers.now.numbers in
    same_records c0 n0 c.loop-image.names c.loop-image.invariant.names c.as_slice-here.result.now
    (subst (AreSights c0 n0) (sym (c.as_slice-here.ensures ∙ c.follow-own.ensures.sights))
    (all_own (λ (s : SightedCell). s ≡ sighted_cell c0 n0 s.cell) c.image-item.result.css c.args.sights.now
    c.requires.sights))

pub list_at_cells-requires : goal.list_at_cells-requires
list_at_cells-requires g c =
    let c0 = c.args.tried.now.config.now.records in
    let n0 = c.args.tried.now.numbers.now.numbers in
    let here = sym (c.as_slice-here.ensures ∙ c.follow-own.ensures.sights) in
    let sights = subst (AreSights c0 n0) here
    (all_own (λ (s : SightedCell). s ≡ sighted_cell c0 n0 s.cell) c.image-item.result.css c.args.sights.now
    c.requires.sights) in
    let own = subst (AllByRecursion (IsIn c.image-item.result.css)) here
    (are_own c.image-item.result.css c.args.sights.now) in search rules

pub loop-image-preserved : goal.loop-image-preserved
loop-image-preserved g c =
    let change = change_at (get (views_seated c.args.tried.now.seats.now.seats))
    (view_at c.args.tried.now.config.now.records c.args.tried.now.numbers.now.numbers) in
    record {
      left = listed_more (λ (images : List Image).
          filter_map change (candidates images (cells_of_sights c.args.sights.now)))
          (λ x xs. ap (filter_map change) (candidates_image x xs (cells_of_sights c.args.sights.now))
          ∙ filter_map-append change (candidates (x ∷ []) (cells_of_sights c.args.sights.now))
          (candidates xs (cells_of_sights c.args.sights.now)))
          c.args.images.now c.loop-image.image-index c.image-item.result c.loop-image-test.true c.image-item.is
          c.loop-image.altered.changes.items c.list_at_cells.new.altered.changes.items _
          (c.in_ok-list_at_cells.ensures.changes ∙ ap (λ xs. c.loop-image.altered.changes.items ++ filter_map change xs)
          (ap (λ (own : List SightedCell). candidates (c.image-item.result ∷ []) (cells_of_sights own))
          (c.as_slice-here.ensures ∙ c.follow-own.ensures.sights)
          ∙ same_candidates c.image-item.result c.args.sights.now)) c.loop-image.invariant.left;
      own = c.follow-own.ensures.sights ∙ ap (λ css. sights_in css c.args.sights.now) (sym c.follow-own.ensures.css);
      names = c.name_for.ensures.same ∙ c.loop-image.invariant.names;
      met = c.in_ok-list_at_cells.ensures.met;
    }
