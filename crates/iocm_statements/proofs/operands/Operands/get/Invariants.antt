-- No operand before this one has the keyword.
use Rattle.std.proofs.Common.{◌≡◌, drop}
use Rattle.iocm_statements.specs.Operands.{text_under}
use Rattle.iocm_statements.proofs.operands.Operands.get.Given as goal

abbrev pub invariant-loop-index : goal.invariant-loop-index
invariant-loop-index l = text_under l.keyword (drop l.index l.self) ≡ text_under l.keyword l.self
