use Rattle.std.proofs.Common.{◌≡◌, ◌≤◌, ◌++◌, drop}
use Rattle.iocm_columns.specs.Written.{cut_from}
use Rattle.iocm_columns.proofs.written.put_columns.Given as goal

-- with the bytes to come the text is the whole
abbrev pub invariant-loop-byte : goal.invariant-loop-byte
invariant-loop-byte l = (l.column ≤ 72)
    × (l.text.items ++ cut_from l.column (drop l.byte-index l.columns) ≡ l.fn.text.items ++ cut_from 1 l.columns)
