-- Those that are left to take back give what all give.
use Rattle.iocm_numbers.proofs.Exchanging.{IsFreeingRows}
use Rattle.iocm_numbers.proofs.numbers.Numbers.free_rows.Given as goal

abbrev pub invariant-loop-row : goal.invariant-loop-row
invariant-loop-row g l = IsFreeingRows l.rows l.row-index l.fn.self l.self
