-- The changes of the cells so far.
use Rattle.std.proofs.Common.{◌≡◌, map, take}
use Rattle.iocm_numbers.specs.NumberChanges.{change_from}
use Rattle.iocm_numbers.proofs.numbers.Numbers.changes_from.Given as goal

abbrev pub invariant-loop-row : goal.invariant-loop-row
invariant-loop-row g l = l.changes.items ≡ map (change_from l.self.numbers) (take l.row-index l.holders)
