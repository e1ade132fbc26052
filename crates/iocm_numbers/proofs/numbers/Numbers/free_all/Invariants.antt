-- Those that are left to take back give what all give.
use Rattle.iocm_numbers.proofs.Restored.{IsFreeing}
use Rattle.iocm_numbers.proofs.numbers.Numbers.free_all.Given as goal

abbrev pub invariant-loop-place : goal.invariant-loop-place
invariant-loop-place g l = IsFreeing l.places l.place-index l.fn.self l.self
