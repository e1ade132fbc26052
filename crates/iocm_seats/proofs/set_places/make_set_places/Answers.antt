use Rattle.std.proofs.Common.{◌≡◌, ◌+◌, true, false, drop_of_length-le, slice_get, sym, ap, subst, ◌∙◌}
use Rattle.std.specs.List.{AllByRecursion}
use Rattle.iocm_types.specs.declared.place.NumberCell.{NumberCell}
use Rattle.iocm_seats.specs.Seated.{Seated, HasPlace}
use Rattle.iocm_seats.specs.Taken.{ends_set, last_subchannel, set_ends}
use Rattle.iocm_seats.proofs.SetEnds.{Places, more_places}
use Rattle.iocm_seats.proofs.set_places.make_set_places.Goals as goal
use Rattle.iocm_seats.proofs.set_places.make_set_places.Goals.{then-ends_set+in_ok-room, else-ends_set}

pub loop-place-preserved : goal.loop-place-preserved
loop-place-preserved g c =
    let cells = c.args.cells.now in
    let i = c.loop-place.place in
    let t = c.index-cells-place.result in
    let old = c.loop-place.seats in
    let ends : ends_set t.cell.set (slice_get cells (i + 1)) ≡ c.ends_set.result =
    ap (λ (cell : NumberCell). ends_set cell.set (slice_get cells (i + 1))) (sym c.cell-cell.ensures)
    ∙ sym c.ends_set.ensures in
    elim c.if-ends_set.branch [
      | then-ends_set+in_ok-room w ↦ record {
        seats = ap (λ (s : Seated). s.seats) w.seats-is ∙ w.room.ensures.seats ∙ c.loop-place.invariant.seats;
        kept = λ x had. subst (λ s. HasPlace s x) (sym w.seats-is)
            (w.room.ensures.kept x (c.loop-place.invariant.kept x had));
        places = subst (λ s. Places cells s (i + 1)) (sym w.seats-is)
            (more_places cells i t c.loop-place-test.true c.index-cells-place.is old w.room.new.self w.room.ensures.kept
            true (ends ∙ w.if-ends_set.true)
            (λ e. subst (HasPlace w.room.new.self)
            (w.last_subchannel-last.ensures ∙ ap last_subchannel c.cell-cell.ensures) w.in_ok-room.ensures.ok)
            c.loop-place.invariant.places);
      }
      | else-ends_set w ↦ record {
        seats = ap (λ (s : Seated). s.seats) w.seats-is ∙ c.loop-place.invariant.seats;
        kept = λ x had. subst (λ s. HasPlace s x) (sym w.seats-is) (c.loop-place.invariant.kept x had);
        places = subst (λ s. Places cells s (i + 1)) (sym w.seats-is)
            (more_places cells i t c.loop-place-test.true c.index-cells-place.is old old (λ x had. had) false
            (ends ∙ w.if-ends_set.false)
            (λ e. let bad : false ≡ true = e in cc) c.loop-place.invariant.places);
      }
    ]

pub returns-clause-ok : goal.returns-clause-ok
returns-clause-ok g c = c.loop-place.invariant.places c.loop-place.seats (λ x had. had)
    (subst (λ ts. AllByRecursion (HasPlace c.loop-place.seats) (set_ends ts))
    (sym (drop_of_length-le c.args.cells.now c.loop-place-test.false)) tt)
