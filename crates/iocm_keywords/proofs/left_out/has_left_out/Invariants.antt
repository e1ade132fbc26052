use Rattle.std.proofs.Common.{◌≡◌, drop}
use Rattle.std.specs.List.{list_any}
use Rattle.iocm_keywords.specs.LeftOut.{is_left_out}
use Rattle.iocm_keywords.proofs.left_out.has_left_out.Given as goal

abbrev pub invariant-loop-index : goal.invariant-loop-index
invariant-loop-index l =
    list_any (is_left_out l.operation) (drop l.index l.operands) ≡ list_any (is_left_out l.operation) l.operands
