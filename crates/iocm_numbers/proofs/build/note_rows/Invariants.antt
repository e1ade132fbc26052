-- What is noted with the rows that are left is noted with all.
use Rattle.iocm_numbers.proofs.Built.{IsNoting}
use Rattle.iocm_numbers.proofs.build.note_rows.Given as goal

abbrev pub invariant-loop-row : goal.invariant-loop-row
invariant-loop-row l = IsNoting l.rows l.row-index l.fn.words l.words
