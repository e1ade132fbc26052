use Rattle.std.proofs.Common.{◌≡◌, take}
use Rattle.iocm_words.specs.Images as meaning
use Rattle.iocm_words.proofs.images.members_of.Given as goal

-- the images so far
abbrev pub invariant-loop-image : goal.invariant-loop-image
invariant-loop-image l = l.members.items ≡ meaning.members_of (take l.image-index l.images)
