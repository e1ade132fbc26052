use Rattle.std.proofs.Common.{◌≡◌, map, take}
use Rattle.iocm_operands.specs.Resource.{image_text}
use Rattle.iocm_deck_writer.proofs.resource.images_text.Given as goal

abbrev pub invariant-loop-image : goal.invariant-loop-image
invariant-loop-image l = l.items.items ≡ map image_text (take l.image-index l.images)
