use Rattle.std.proofs.Common.{◌≡◌, drop, map}
use Rattle.iocm_keywords.specs.Known.{form_in, seen_row}
use Rattle.iocm_keywords.proofs.known.form_in.Given as goal

abbrev pub invariant-loop-row : goal.invariant-loop-row
invariant-loop-row l = form_in (map seen_row (drop l.row-index l.rows)) l.word ≡ form_in (map seen_row l.rows) l.word
