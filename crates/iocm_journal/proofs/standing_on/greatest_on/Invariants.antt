-- The places that are left have the greatest of all.
use Rattle.std.proofs.Common.{◌≡◌, ◌≤◌, ◌+◌, cond, length}
use Rattle.iocm_journal.specs.Standing.{is_on, last_passing}
use Rattle.iocm_journal.proofs.standing_on.greatest_on.Given as goal

abbrev pub invariant-loop-left : goal.invariant-loop-left
invariant-loop-left l =
    (l.least ≡ cond l.fits (l.place + 1) 0) × (l.least ≤ l.left) × (l.left ≤ length l.kept) × (last_passing
    (is_on l.kept l.changes.items l.place l.fits) l.left ≡ last_passing (is_on l.kept l.changes.items l.place l.fits)
    (length l.kept))

abbrev pub decreases-loop-left : goal.decreases-loop-left
decreases-loop-left l = l.left
