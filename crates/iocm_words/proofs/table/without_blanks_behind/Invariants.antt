use Rattle.std.proofs.Common.{◌≡◌, ◌≤◌, length, take}
use Rattle.iocm_words.specs.Table as meaning
use Rattle.iocm_words.proofs.table.without_blanks_behind.Given as goal

-- behind the end there are blanks
abbrev pub invariant-loop-end : goal.invariant-loop-end
invariant-loop-end l =
    (l.end ≤ length l.line)
    × (meaning.without_blanks_behind (take l.end l.line) ≡ meaning.without_blanks_behind l.line)

abbrev pub decreases-loop-end : goal.decreases-loop-end
decreases-loop-end l = l.end
