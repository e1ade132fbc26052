-- The refusals so far, and those that the words to come name, are those of all words.
use Rattle.std.proofs.Common.{◌≡◌, ◌++◌}
use Rattle.iocm_explain.proofs.Words.{rest_of}
use Rattle.iocm_explain.proofs.explaining.rules_of.Given as goal

abbrev pub invariant-loop-word : goal.invariant-loop-word
invariant-loop-word l = l.rules.items ++ rest_of l.word-index l.words ≡ rest_of 0 l.words
