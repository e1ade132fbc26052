use Rattle.std.proofs.Common.{◌≡◌, take}
use Rattle.iocm_record_reader.specs.Values.{carried_by}
use Rattle.iocm_record_reader.proofs.operands.carried_by.Given as goal

abbrev pub invariant-loop-index : goal.invariant-loop-index
invariant-loop-index l = l.carried.items ≡ carried_by l.operation (take l.index l.operands)
