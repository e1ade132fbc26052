use Rattle.std.proofs.Common.{[], ◌∷◌, fold, ap, sym, ◌∙◌}
use Rattle.std.specs.Option.{option_and_then}
use Rattle.std.proofs.lemmas.Result.{on_ok_weaker}
use Rattle.iocm_types.specs.declared.image.Image.{Image}
use Rattle.iocm_types.specs.declared.live.Live.{Live}
use Rattle.iocm_types.specs.declared.place.NumberCell.{NumberCell}
use Rattle.iocm_types.specs.declared.sub_id.SubId.{SubId}
use Rattle.iocm_model.specs.Machine.Configuration.{lookup_of}
use Rattle.iocm_model.specs.Machine.View.{view_if_seen}
use Rattle.iocm_derive.specs.Sighted.{Sighted}
use Rattle.iocm_seats.specs.declared.seat.Seat.{Seat}
use Rattle.iocm_seats.specs.Listing.{with_seat}
use Rattle.iocm_seats.specs.Taken.{taken}
use Rattle.iocm_seats.proofs.Listed.{no_view, one_view}
use Rattle.iocm_seats.proofs.opening.open_cell.Goals as goal

pub returns-in_default-clause-seats : goal.returns-in_default-clause-seats
returns-in_default-clause-seats g c =
    let at = lookup_of c.args.sight.now.records in
    let i = c.args.sight.now.image in
    sym (ap (fold with_seat c.args.seats.now.seats) (no_view at i (taken c.args.at.now)
    (ap (option_and_then (view_if_seen at i.css i.name)) (sym c.requires.taken ∙ c.requires.fields)
    ∙ sym c.view_of.ensures.view ∙ c.in_default.is)))

pub returns-clause-seats : goal.returns-clause-seats
returns-clause-seats g c =
    let at = lookup_of c.args.sight.now.records in
    let i = c.args.sight.now.image in
    let e = taken c.args.at.now in
    let seen = ap (option_and_then (view_if_seen at i.css i.name)) (sym c.requires.taken ∙ c.requires.fields)
    ∙ sym c.view_of.ensures.view ∙ c.in-Some.is in
    on_ok_weaker c.add.result (λ given. given ∙ ap (fold with_seat c.args.seats.now.seats)
    ((λ z. row_of ((c.image.ensures ∙ ap image_in c.view_of.ensures.same) z) (c.cell-cell.ensures z)
    ((c.new.ensures ∙ ap seat_of c.fresh-live.ensures) z) ∷ []) ∙ sym (one_view at i e c.in-Some.view seen)))
    c.add.ensures.seats
  where
    image_in : Sighted → Image
    image_in s = record { css = s.image.css; mif = s.image.mif }

    seat_of : Live → Seat
    seat_of l = record { view = c.in-Some.view; live = l }

    row_of : Image → NumberCell → Seat → SubId × Seat
    row_of im n s = (record { image = im; set = n.set; number = n.number }, s)
