-- The bits of the words before are all set.
use Rattle.std.proofs.Common.{◌*◌}
use Rattle.iocm_numbers.specs.Bits.{AreAllSet}
use Rattle.iocm_numbers.proofs.bits.lowest_clear.Given as goal

abbrev pub invariant-loop-place : goal.invariant-loop-place
invariant-loop-place l = AreAllSet l.words (64 * l.first) (64 * l.place)
