-- The first of those that are left is the first of all.
use Rattle.std.proofs.Common.{◌≡◌, drop}
use Rattle.iocm_seats.specs.Settling.{first_busy}
use Rattle.iocm_seats.proofs.met.first_busy.Given as goal

abbrev pub invariant-loop-row : goal.invariant-loop-row
invariant-loop-row l = first_busy (drop l.row-index l.met) ≡ first_busy l.met
