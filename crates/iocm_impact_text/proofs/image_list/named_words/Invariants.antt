-- The words of the images so far.
use Rattle.std.proofs.Common.{◌≡◌, map, take}
use Rattle.iocm_impact_text.specs.Listed.{named_word}
use Rattle.iocm_impact_text.proofs.image_list.named_words.Given as goal

abbrev pub invariant-loop-image : goal.invariant-loop-image
invariant-loop-image l = l.words.items ≡ map named_word (take l.image-index l.images)
