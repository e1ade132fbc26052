use Rattle.std.proofs.Common.{◌≡◌, map, take}
use Rattle.iocm_words.specs.Ranges.{set_word}
use Rattle.iocm_words.proofs.ranges.numbers_word.Given as goal

abbrev pub invariant-loop-numbers : goal.invariant-loop-numbers
invariant-loop-numbers l = l.words.items ≡ map set_word (take l.numbers-index l.sets)
