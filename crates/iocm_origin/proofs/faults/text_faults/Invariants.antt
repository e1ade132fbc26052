-- The faults so far, with those of the texts that are left, are all.
use Rattle.std.proofs.Common.{◌≡◌, ◌++◌, drop}
use Rattle.iocm_origin.specs.Faults.{text_faults}
use Rattle.iocm_origin.proofs.faults.text_faults.Given as goal

abbrev pub invariant-loop-statement : goal.invariant-loop-statement
invariant-loop-statement l = l.faults.items ++ text_faults (drop l.statement-index l.joined) ≡ text_faults l.joined
