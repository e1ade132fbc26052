-- What is gathered of the images so far; with those that are left it is all.
use Rattle.std.proofs.Common.{◌≡◌, [], ◌++◌, drop, take}
use Rattle.iocm_impact.specs.Gathered.{change}
use Rattle.iocm_impact.specs.Impact.{blocks_from, counts_among, marks_among}
use Rattle.iocm_impact.proofs.impact.gathered_of.Given as goal

abbrev pub invariant-loop-image : goal.invariant-loop-image
invariant-loop-image l = let x = change l.filters l.is_lost l.old.records l.new.records in record {
  images : l.gathered.images ++ counts_among x (drop l.image-index l.images) ≡ counts_among x l.images;
  blocks : blocks_from x l.gathered.blocks (drop l.image-index l.images) ≡ blocks_from x [] l.images;
  marks : l.gathered.marks ≡ marks_among x (take l.image-index l.images);
}
