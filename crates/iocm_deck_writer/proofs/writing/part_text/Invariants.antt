use Rattle.std.proofs.Common.{◌≡◌, map, take}
use Rattle.iocm_deck_writer.specs.Canonical.{operand_text}
use Rattle.iocm_deck_writer.proofs.writing.part_text.Given as goal

abbrev pub invariant-loop-operand : goal.invariant-loop-operand
invariant-loop-operand l = l.texts.items ≡ map operand_text (take l.operand-index l.operands)
