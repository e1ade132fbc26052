use Rattle.std.proofs.Common.{◌≡◌, map, take}
use Rattle.iocm_words.specs.Ranges.{range_word}
use Rattle.iocm_words.proofs.ranges.ranges_word.Given as goal

abbrev pub invariant-loop-range : goal.invariant-loop-range
invariant-loop-range l = l.words.items ≡ map range_word (take l.range-index l.ranges)
