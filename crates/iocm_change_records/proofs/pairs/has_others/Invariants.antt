use Rattle.std.proofs.Common.{◌≡◌, drop}
use Rattle.std.specs.List.{list_any}
use Rattle.iocm_change_records.specs.Pairs.{is_beside}
use Rattle.iocm_change_records.proofs.pairs.has_others.Given as goal

abbrev pub invariant-loop-index : goal.invariant-loop-index
invariant-loop-index l = list_any is_beside (drop l.index l.operands) ≡ list_any is_beside l.operands
