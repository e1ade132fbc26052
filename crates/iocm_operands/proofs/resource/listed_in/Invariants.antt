use Rattle.std.proofs.Common.{◌≡◌, take}
use Rattle.std.specs.List.{filter_map}
use Rattle.iocm_operands.specs.Resource.{name_in}
use Rattle.iocm_operands.proofs.resource.listed_in.Given as goal

abbrev pub invariant-loop-image : goal.invariant-loop-image
invariant-loop-image l = l.names.items ≡ filter_map (name_in l.css) (take l.image-index l.images)
