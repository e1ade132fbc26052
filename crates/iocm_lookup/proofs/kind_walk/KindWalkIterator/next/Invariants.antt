-- The records that are left stay, and each turn passes a row.
use Rattle.std.proofs.Common.{◌≡◌, length}
use Rattle.iocm_lookup.specs.Entries.{AreInOrder, in_entries}
use Rattle.iocm_lookup.specs.Kinds.{of_kind, place_of}
use Rattle.iocm_lookup.proofs.kind_walk.KindWalkIterator.next.Given as goal

abbrev pub invariant-loop-key : goal.invariant-loop-key
invariant-loop-key g l = record {
  kind : l.self-inside.kind ≡ l.initial.self-inside.kind;
  order : AreInOrder l.self-inside.rows;
  left : of_kind (place_of l.self-inside.kind) (in_entries l.self-inside.rows)
      ≡ of_kind (place_of l.initial.self-inside.kind) (in_entries l.initial.self-inside.rows);
}

abbrev pub decreases-loop-key : goal.decreases-loop-key
decreases-loop-key g l = length l.self-inside.rows
