-- Those that are left to look at say, with what was noted, what all say.
use Rattle.std.proofs.Common.{◌≡◌}
use Rattle.iocm_types.specs.Place.{cell_cmp}
use Rattle.iocm_table.specs.Slots.{rows}
use Rattle.iocm_numbers.proofs.Taking.{IsNoting}
use Rattle.iocm_numbers.proofs.numbers.Numbers.is_one_twice.Given as goal

abbrev pub invariant-loop-row : goal.invariant-loop-row
invariant-loop-row g l =
    (l.walk ≡ l.config.records)
    × IsNoting l.config.records l.self.numbers l.carried l.row-index (rows cell_cmp l.seen)
