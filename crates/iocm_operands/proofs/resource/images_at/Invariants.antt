use Rattle.std.proofs.Common.{◌≡◌, take}
use Rattle.std.specs.List.{filter_map}
use Rattle.iocm_operands.specs.Resource.{image_at}
use Rattle.iocm_operands.proofs.resource.images_at.Given as goal

abbrev pub invariant-loop-place : goal.invariant-loop-place
invariant-loop-place l = l.images.items ≡ filter_map image_at (take l.place-index l.places)
