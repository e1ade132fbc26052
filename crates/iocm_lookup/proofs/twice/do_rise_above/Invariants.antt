-- The numbers so far rise, and so it is left to the rest.
use Rattle.std.proofs.Common.{◌≡◌, drop}
use Rattle.iocm_lookup.specs.Rising.{do_rise_above}
use Rattle.iocm_lookup.proofs.twice.do_rise_above.Given as goal

abbrev pub invariant-loop-number : goal.invariant-loop-number
invariant-loop-number l = do_rise_above l.last (drop l.number-index l.numbers) ≡ do_rise_above l.first l.numbers
