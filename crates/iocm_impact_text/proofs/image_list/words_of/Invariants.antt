-- The words of the ranges so far.
use Rattle.std.proofs.Common.{◌≡◌, map, take}
use Rattle.iocm_impact_text.specs.Listed.{place_word}
use Rattle.iocm_impact_text.proofs.image_list.words_of.Given as goal

abbrev pub invariant-loop-range : goal.invariant-loop-range
invariant-loop-range l = l.words.items ≡ map place_word (take l.range-index l.ranges)
