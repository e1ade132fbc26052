-- Those that are left to look at say what all say.
use Rattle.std.proofs.Common.{◌≡◌}
use Rattle.std.specs.List.{list_any}
use Rattle.std.specs.FinMap.{entries}
use Rattle.iocm_model.specs.Change.Refusal.{same_cell}
use Rattle.iocm_model.specs.Change.Renumbering.{comes_in, without_leavers}
use Rattle.iocm_numbers.proofs.Taking.{IsLooking}
use Rattle.iocm_numbers.proofs.numbers.Numbers.is_one_held.Given as goal

abbrev pub invariant-loop-row : goal.invariant-loop-row
invariant-loop-row g l =
    (l.walk ≡ l.config.records)
    × IsLooking (comes_in l.config.records l.self.numbers)
    (λ row. list_any (same_cell row) (entries (without_leavers l.config.records l.self.numbers))) l.carried
    l.row-index
