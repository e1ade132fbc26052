use Rattle.std.proofs.Common.{fold, get_or, sym, ap, subst, ◌∙◌}
use Rattle.std.specs.List.{All, AllByRecursion}
use Rattle.iocm_model.specs.Machine.Configuration.{lookup_of, records_of}
use Rattle.iocm_model.specs.Machine.Record.{ImageRecord}
use Rattle.iocm_derive.specs.Sighted.{Sighted}
use Rattle.iocm_seats.specs.Seated.{Seats}
use Rattle.iocm_seats.specs.Listing.{cells_seats, images_among, sights_of, with_seat}
use Rattle.iocm_seats.specs.Taken.{taken_of, IsTaken}
use Rattle.iocm_seats.proofs.Everywhere.{of_any, of_made}
use Rattle.iocm_seats.proofs.opening.open_subsystem.Goals as goal

pub open_cells-requires : goal.open_cells-requires
open_cells-requires g c =
    let at = c.args.config.now.records in
    let images = images_among c.args.css (records_of at) in
    λ place t within. subst (AllByRecursion
    (λ (s : Sighted). IsTaken (lookup_of s.records) (get_or c.as_slice-2.result.now place t)))
    (sym (c.as_mut_slice.ensures.value ∙ c.in_ok-sights.ensures))
    (of_made (λ (s : Sighted). IsTaken (lookup_of s.records) (get_or c.as_slice-2.result.now place t))
    (λ (i : ImageRecord). record { records = at; image = i }) images
    (of_any (λ i. IsTaken (lookup_of at) (get_or c.as_slice-2.result.now place t))
    (λ i. (subst (All (IsTaken (lookup_of at))) (sym c.as_slice-2.ensures.value) c.in_ok-cells.ensures.devices)
    place t within) images))

pub returns : goal.returns
returns g c =
    let given = fold with_seat c.args.seats.now.seats in
    c.in_ok-open_cells.ensures.seats
    ∙ ap (λ (m : Seats). fold with_seat m (cells_seats c.as_mut_slice.result.now (taken_of c.as_slice-2.result.now)))
    c.make_set_places.ensures.seats
    ∙ ap (λ sights. given (cells_seats sights (taken_of c.as_slice-2.result.now)))
    (c.as_mut_slice.ensures.value ∙ c.in_ok-sights.ensures)
    ∙ ap (λ cells. given (cells_seats
    (sights_of c.args.config.now.records (images_among c.args.css (records_of c.args.config.now.records))) cells))
    (ap taken_of c.as_slice-2.ensures.value ∙ c.in_ok-cells.ensures.cells)
