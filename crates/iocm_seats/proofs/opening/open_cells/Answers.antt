use Rattle.std.proofs.Common.{◌+◌, drop, drop_of_length-le, fold, List, ap, sym, subst, ◌∙◌}
use Rattle.std.specs.List.{AllByRecursion}
use Rattle.std.proofs.lemmas.List.Sums.{fold-append}
use Rattle.iocm_types.proofs.Lists.{drop-item}
use Rattle.iocm_model.specs.Machine.Configuration.{lookup_of}
use Rattle.iocm_derive.specs.Sighted.{Sighted}
use Rattle.iocm_seats.specs.Listing.{cell_seats, cells_seats, with_seat}
use Rattle.iocm_seats.specs.Taken.{taken, taken_of, IsTaken, Taken}
use Rattle.iocm_seats.proofs.opening.open_cells.Goals as goal

pub open_at-requires : goal.open_at-requires
open_at-requires g c = subst (AllByRecursion (λ (s : Sighted). IsTaken (lookup_of s.records) c.taken-item.result))
    (sym c.loop-taken.invariant.same)
    (subst (λ (t : Taken). AllByRecursion (λ (s : Sighted). IsTaken (lookup_of s.records) t) c.args.sights.now)
    (sym c.taken-item.is)
    (c.requires c.loop-taken.taken-index c.taken-item.result c.loop-taken-test.true))

pub loop-taken-preserved : goal.loop-taken-preserved
loop-taken-preserved g c =
    let sights = c.args.sights.now in
    let rest = taken_of (drop (c.loop-taken.taken-index + 1) c.args.cells.now) in record {
      left = ap (λ m. fold with_seat m (cells_seats sights rest)) (c.in_ok-open_at.ensures.seats
          ∙ ap (λ (ss : List Sighted).
          fold with_seat c.loop-taken.seats.seats (cell_seats ss (taken c.taken-item.result)))
          c.loop-taken.invariant.same)
          ∙ sym (fold-append with_seat c.loop-taken.seats.seats (cell_seats sights (taken c.taken-item.result))
          (cells_seats sights rest))
          ∙ ap (λ cells. fold with_seat c.loop-taken.seats.seats (cells_seats sights (taken_of cells)))
          (sym (drop-item c.args.cells.now c.loop-taken.taken-index c.taken-item.result c.loop-taken-test.true
          c.taken-item.is))
          ∙ c.loop-taken.invariant.left;
      same = c.in_ok-open_at.ensures.same ∙ c.loop-taken.invariant.same;
    }

pub returns : goal.returns
returns g c = record {
  seats = sym (ap (λ cells. fold with_seat c.loop-taken.seats.seats (cells_seats c.args.sights.now (taken_of cells)))
      (drop_of_length-le c.args.cells.now c.loop-taken-test.false)) ∙ c.loop-taken.invariant.left;
  same = c.loop-taken.invariant.same;
}
