use Rattle.std.proofs.Common.{◌≡◌, drop, map}
use Rattle.std.specs.List.{list_any}
use Rattle.iocm_keywords.specs.Known.{is_missing, seen_row}
use Rattle.iocm_keywords.proofs.known.is_one_missing.Given as goal

abbrev pub invariant-loop-row : goal.invariant-loop-row
invariant-loop-row l = list_any (is_missing l.operands) (map seen_row (drop l.row-index l.rows))
    ≡ list_any (is_missing l.operands) (map seen_row l.rows)
