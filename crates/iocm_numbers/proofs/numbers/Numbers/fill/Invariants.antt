-- Those that are left to fill give what all give.
use Rattle.std.proofs.Common.{◌≡◌}
use Rattle.iocm_numbers.proofs.Steps.{IsFilling}
use Rattle.iocm_numbers.proofs.numbers.Numbers.fill.Given as goal

abbrev pub invariant-loop-place : goal.invariant-loop-place
invariant-loop-place g l =
    (l.walk ≡ l.config.records)
    × IsFilling l.config.records l.places l.place-index l.fn.self l.self
