-- Where those that are left have places, all have; what is left was seen.
use Rattle.std.proofs.Common.{◌≡◌, drop}
use Rattle.iocm_types.specs.declared.sub_id.SubId.{SubId}
use Rattle.iocm_seats.specs.Seated.{views_seated, Seated, HasPlace}
use Rattle.iocm_seats.specs.Settling.{AreSeen, HavePlaces}
use Rattle.iocm_seats.proofs.settling.make_places.Given as goal

abbrev pub invariant-loop-change : goal.invariant-loop-change
invariant-loop-change g l = record {
  seats : l.seats.seats ≡ l.initial.seats.seats;
  kept : (x : SubId) → HasPlace l.initial.seats x → HasPlace l.seats x;
  all : (t : Seated) → ((x : SubId) → HasPlace l.seats x → HasPlace t x)
      → HavePlaces t (drop l.change-index l.changes) → HavePlaces t l.changes;
  seen : AreSeen (views_seated l.initial.seats.seats) (drop l.change-index l.changes);
}
