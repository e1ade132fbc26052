-- No operand before this one is the word.
use Rattle.std.proofs.Common.{◌≡◌, drop}
use Rattle.iocm_statements.specs.Operands.{has_bare}
use Rattle.iocm_statements.proofs.operands.Operands.has_bare.Given as goal

abbrev pub invariant-loop-index : goal.invariant-loop-index
invariant-loop-index l = has_bare l.word (drop l.index l.self) ≡ has_bare l.word l.self
