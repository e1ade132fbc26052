-- The bare words so far.
use Rattle.std.proofs.Common.{◌≡◌, take}
use Rattle.iocm_objects.specs.Carried.{bare_texts}
use Rattle.iocm_objects.proofs.carried.bare_words.Given as goal

abbrev pub invariant-loop-operand : goal.invariant-loop-operand
invariant-loop-operand l = l.words.items ≡ bare_texts (take l.operand-index l.carried)
