-- The rows that are left stay, and each turn passes a slot.
use Rattle.std.proofs.Common.{◌≡◌, length}
use Rattle.iocm_table.specs.Slots.{present}
use Rattle.iocm_table.proofs.rows.RowsIterator.next.Given as goal

abbrev pub invariant-loop-key : goal.invariant-loop-key
invariant-loop-key g l = present l.self-inside.slots ≡ present l.initial.self-inside.slots

abbrev pub decreases-loop-key : goal.decreases-loop-key
decreases-loop-key g l = length l.self-inside.slots
