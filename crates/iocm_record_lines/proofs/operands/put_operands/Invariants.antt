-- What is put, with the items that are left, is the list.
use Rattle.std.proofs.Common.{◌≡◌, ◌++◌, drop, false}
use Rattle.serde_json.specs.Written.{items_text}
use Rattle.iocm_record_lines.specs.Records.{operand_value}
use Rattle.iocm_record_lines.specs.Lists.{items_of}
use Rattle.iocm_record_lines.proofs.operands.put_operands.Given as goal

abbrev pub invariant-loop-operand : goal.invariant-loop-operand
invariant-loop-operand g l = l.text.items ++ items_text l.later (items_of operand_value (drop l.operand-index l.carried))
    ≡ l.initial.text.items ++ items_text false (items_of operand_value l.carried)
