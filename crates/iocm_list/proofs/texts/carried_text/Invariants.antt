-- No operand so far has the keyword.
use Rattle.std.proofs.Common.{◌≡◌, drop}
use Rattle.iocm_list.specs.Texts.{carried_text}
use Rattle.iocm_list.proofs.texts.carried_text.Given as goal

abbrev pub invariant-loop-operand : goal.invariant-loop-operand
invariant-loop-operand l = carried_text l.keyword (drop l.operand-index l.carried) ≡ carried_text l.keyword l.carried
