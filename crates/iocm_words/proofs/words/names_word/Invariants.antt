use Rattle.std.proofs.Common.{◌≡◌, take}
use Rattle.iocm_words.proofs.words.names_word.Given as goal

abbrev pub invariant-loop-name : goal.invariant-loop-name
invariant-loop-name l = l.words.items ≡ take l.name-index l.names
