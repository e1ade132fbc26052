use Rattle.std.proofs.Common.{◌≡◌, take}
use Rattle.iocm_record.proofs.carried.copy_carried.Given as goal

-- what was copied so far are the operands so far
abbrev pub invariant-loop-operand : goal.invariant-loop-operand
invariant-loop-operand g l = l.copies.items ≡ take l.operand-index l.carried
