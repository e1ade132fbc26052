use Rattle.std.proofs.Common.{◌≡◌, drop}
use Rattle.std.specs.List.{list_any}
use Rattle.iocm_keywords.specs.Known.{is_other_form}
use Rattle.iocm_keywords.proofs.known.has_other_form.Given as goal

abbrev pub invariant-loop-index : goal.invariant-loop-index
invariant-loop-index l =
    list_any (is_other_form l.operation) (drop l.index l.operands) ≡ list_any (is_other_form l.operation) l.operands
