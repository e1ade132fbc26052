use Rattle.std.proofs.Common.{◌≡◌, map, take}
use Rattle.iocm_change_records.specs.ResourceKeys.{key_of_image}
use Rattle.iocm_change_records.proofs.image_keys.keys_in.Given as goal

abbrev pub invariant-loop-image : goal.invariant-loop-image
invariant-loop-image l = l.keys.items ≡ map key_of_image (take l.image-index l.images)
