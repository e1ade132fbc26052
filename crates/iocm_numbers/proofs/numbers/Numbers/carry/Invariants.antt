-- Those that are left to carry in give what all give.
use Rattle.std.proofs.Common.{◌≡◌}
use Rattle.iocm_numbers.proofs.Steps.{IsCarrying}
use Rattle.iocm_numbers.proofs.numbers.Numbers.carry.Given as goal

abbrev pub invariant-loop-row : goal.invariant-loop-row
invariant-loop-row g l =
    (l.walk ≡ l.config.records)
    × IsCarrying l.config.records l.carried l.row-index l.fn.self l.self
