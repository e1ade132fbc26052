-- The images so far, with those of the records that are left, are all.
use Rattle.std.proofs.Common.{◌≡◌, ◌+◌, ◌≤◌, length, map}
use Rattle.std.specs.FinMap.{entries}
use Rattle.std.specs.List.{filter_map}
use Rattle.iocm_model.specs.Machine.Configuration.{as_image, images_of}
use Rattle.iocm_list.proofs.device_words.count_images.Given as goal

abbrev pub invariant-loop-entry : goal.invariant-loop-entry
invariant-loop-entry l = record {
  few : l.count + length l.entry-iterator ≤ length (entries l.config.records);
  left : l.count + length (filter_map as_image (map (λ e. e.1) l.entry-iterator))
      ≡ length (images_of l.config.records);
}
