use Rattle.std.proofs.Common.{◌≡◌, drop, map}
use Rattle.std.specs.List.{list_any}
use Rattle.iocm_keywords.specs.Known.{seen_row}
use Rattle.iocm_change_records.specs.Table.{is_key_left_out}
use Rattle.iocm_change_records.proofs.table.is_one_left_out.Given as goal

abbrev pub invariant-loop-row : goal.invariant-loop-row
invariant-loop-row l = list_any (is_key_left_out l.operation l.operands) (map seen_row (drop l.row-index l.rows))
    ≡ list_any (is_key_left_out l.operation l.operands) (map seen_row l.rows)
