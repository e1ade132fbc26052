-- What is written through the loan of a row, as a change of the seats.
use Rattle.std.proofs.Common.{◌≡◌, Option, None, Some, ap, ◌∙◌}
use Rattle.std.specs.Option.{OnSome}
use Rattle.std.specs.FinMap.{insert}
use Rattle.iocm_types.specs.declared.sub_id.SubId.{SubId}
use Rattle.iocm_grid.specs.Gridded.{Gridded}
use Rattle.iocm_grid.specs.Lent as grid
use Rattle.iocm_seats.specs.declared.seat.Seat.{Seat}
use Rattle.iocm_seats.specs.Seated.{Seated}
use Rattle.iocm_seats.specs.Lent.{IsChangedAt, IsUnchanged}

-- what contracts see of seats that a grid keeps
abbrev pub seated_in : Gridded Seat → Seated
seated_in t = record { seats = t.rows; places = t.places }

module _ (t u : Gridded Seat) (s : Seated) (is : seated_in t ≡ s) where
  changed : (x : SubId) (w : Seat) → grid.IsChangedAt t x u w → IsChangedAt s x (seated_in u) w
  changed x w now = record {
    seats = now.rows ∙ ap (λ (v : Seated). insert v.seats x w) is;
    places = now.places ∙ ap (λ (v : Seated). v.places) is;
  }

  -- a seat that is there is written over
  pub seat_changed : {B : Type 0} (lent : Option B) (x : SubId) (w : Seat) → OnSome lent (grid.IsChangedAt t x u w)
      → OnSome lent (IsChangedAt s x (seated_in u) w)
  seat_changed None x w now = tt
  seat_changed (Some b) x w now = changed x w now

  -- where none is there, all stays as it is
  pub seats_unchanged : grid.IsUnchanged t u → IsUnchanged s (seated_in u)
  seats_unchanged now = record {
    seats = now.rows ∙ ap (λ (v : Seated). v.seats) is;
    places = now.places ∙ ap (λ (v : Seated). v.places) is;
  }
