-- The rows that are left fit in, and give what all give.
use Rattle.iocm_numbers.proofs.Restored.{IsPlacing}
use Rattle.iocm_numbers.proofs.numbers.Numbers.place_all.Given as goal

abbrev pub invariant-loop-row : goal.invariant-loop-row
invariant-loop-row g l = IsPlacing l.rows l.row-index l.fn.self l.self
