-- The images so far, with those of the keys that are left, are all.
use Rattle.std.proofs.Common.{◌≡◌, ◌++◌, length}
use Rattle.std.specs.List.{filter_map}
use Rattle.iocm_impact.specs.Impact as meaning
use Rattle.iocm_impact.proofs.named_image.named_images.Given as goal

abbrev pub invariant-loop-met : goal.invariant-loop-met
invariant-loop-met l = l.images.items ++ filter_map meaning.named_image l.merge
    ≡ meaning.named_images l.old.records l.new.records

abbrev pub decreases-loop-met : goal.decreases-loop-met
decreases-loop-met l = length l.merge
