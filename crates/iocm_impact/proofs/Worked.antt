-- Marks and counts, rows, blocks and images as they are worked by hand.
use Rattle.std.proofs.Common.{refl}
use Rattle.iocm_impact.specs.Examples.{BlocksAreAsWorked, CountsAreAsWorked, ImagesAreAsWorked, RowsAreAsWorked}

pub counts_as_worked : CountsAreAsWorked
unfolding lib.Count.ones
counts_as_worked = record {
  one_off = refl;
  both_off = refl;
  goes = refl;
  comes = refl;
  rerouted = refl;
  interrupted = refl;
  both = refl;
  counts = refl;
}

pub rows_as_worked : RowsAreAsWorked
unfolding lib.Count.ones
rows_as_worked = record {
  joined = refl;
  gap = refl;
  two_sets = refl;
  other_paths = refl;
  other_reason = refl;
  left_out = refl;
  told = refl;
  none = refl;
}

pub blocks_as_worked : BlocksAreAsWorked
unfolding lib.Count.ones
blocks_as_worked = record {
  together = refl;
  no_rows = refl;
  other_set = refl;
  other_first = refl;
  other_count = refl;
  other_effect = refl;
  off_and_on = refl;
}

pub images_as_worked : ImagesAreAsWorked
unfolding lib.Count.ones
images_as_worked = record {
  stays = refl;
  added = refl;
  deleted = refl;
  no_image = refl;
}
