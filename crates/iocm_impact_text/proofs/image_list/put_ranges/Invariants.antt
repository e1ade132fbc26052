-- The ranges so far, with the one that is open and those of the images to come, are all.
use Rattle.std.proofs.Common.{◌≡◌, ◌++◌, drop}
use Rattle.iocm_impact_text.specs.Listed.{ranges_from}
use Rattle.iocm_impact_text.proofs.image_list.put_ranges.Given as goal

abbrev pub invariant-loop-image : goal.invariant-loop-image
invariant-loop-image l = l.ranges.items ++ ranges_from l.range (drop l.image-index l.images)
    ≡ l.initial.ranges.items ++ ranges_from l.fn.first l.images
