use Rattle.std.proofs.Common.{◌≡◌, ◌++◌, replicate}
use Rattle.iocm_words.proofs.table.put_blanks.Given as goal

-- so many blanks
abbrev pub invariant-loop : goal.invariant-loop
invariant-loop l = l.text.items ≡ l.fn.text.items ++ replicate l.counter 32
