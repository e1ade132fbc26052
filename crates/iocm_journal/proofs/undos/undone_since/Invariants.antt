-- None of the undos that were read was such.
use Rattle.std.proofs.Common.{◌≡◌, ◌≤◌, ℕ, false, Some, length}
use Rattle.std.specs.List.{slice_get}
use Rattle.iocm_journal.specs.declared.undos.Undo.{Undo}
use Rattle.iocm_journal.specs.Noted.{is_of_earlier_since}
use Rattle.iocm_journal.proofs.undos.undone_since.Given as goal

abbrev pub invariant-loop-left : goal.invariant-loop-left
invariant-loop-left l = (l.left ≤ length l.undos) × ((i : ℕ) (u : Undo) → l.left ≤ i
    → slice_get l.undos i ≡ Some u → is_of_earlier_since l.kept l.place u ≡ false)

abbrev pub decreases-loop-left : goal.decreases-loop-left
decreases-loop-left l = l.left
