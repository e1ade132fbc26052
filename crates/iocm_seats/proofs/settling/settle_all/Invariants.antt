-- The changes that are left give what all give, and their subchannels have places.
use Rattle.std.proofs.Common.{◌≡◌, drop}
use Rattle.iocm_types.specs.SubId.{sub_id_cmp}
use Rattle.std.specs.FinMap.{from_sorted}
use Rattle.iocm_seats.specs.Settling.{settled_all, HavePlaces}
use Rattle.iocm_seats.proofs.settling.settle_all.Given as goal

abbrev pub invariant-loop-change : goal.invariant-loop-change
invariant-loop-change g l = record {
  left : settled_all (from_sorted {R = sub_id_cmp} l.kept) l.seats.seats (drop l.change-index l.changes)
      ≡ settled_all (from_sorted {R = sub_id_cmp} l.kept) l.initial.seats.seats l.changes;
  ready : HavePlaces l.seats (drop l.change-index l.changes);
  places : l.seats.places ≡ l.initial.seats.places;
}
