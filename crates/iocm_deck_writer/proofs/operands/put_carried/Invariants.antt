use Rattle.std.proofs.Common.{◌≡◌, ◌++◌, take}
use Rattle.iocm_deck_writer.proofs.operands.put_carried.Given as goal

abbrev pub invariant-loop-operand : goal.invariant-loop-operand
invariant-loop-operand g l = l.operands.items ≡ l.fn.operands.items ++ take l.operand-index l.carried
