use Rattle.std.proofs.Common.{◌≡◌, ◌++◌, map, take}
use Rattle.iocm_model.specs.Machine.Record.{image}
use Rattle.iocm_record_reader.proofs.resource.add_images.Given as goal

abbrev pub invariant-loop-image : goal.invariant-loop-image
invariant-loop-image l = l.records.items ≡ l.initial.records.items ++ map image (take l.image-index l.images)
