-- The operands so far, with what the rest gives, are what all texts give.
use Rattle.std.proofs.Common.{◌≡◌, drop, map}
use Rattle.iocm_types.specs.Each.{each, after_front}
use Rattle.iocm_statements.specs.Operands.{operand_of}
use Rattle.iocm_statements.proofs.operand.make_operands.Given as goal

abbrev pub invariant-loop-place : goal.invariant-loop-place
invariant-loop-place l =
    after_front l.operands.items (each (operand_of l.malformed) l.place (map (λ k. k.now) (drop l.place l.texts)))
    ≡ each (operand_of l.malformed) 0 (map (λ k. k.now) l.texts)
