-- None of the refusals so far has the word as its number.
use Rattle.std.proofs.Common.{◌≡◌, drop}
use Rattle.iocm_explain.specs.Named as specs
use Rattle.iocm_explain.proofs.named.named_among.Given as goal

abbrev pub invariant-loop-rule : goal.invariant-loop-rule
invariant-loop-rule l = specs.named_among l.word (drop l.rule-index l.rules) ≡ specs.named_among l.word l.rules
