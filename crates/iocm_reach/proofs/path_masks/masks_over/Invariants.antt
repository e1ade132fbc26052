-- The bits so far, with those of the paths that are left, are the masks.
use Rattle.std.proofs.Common.{◌≡◌, ◌+◌, ◌*◌, ◌≤◌, drop}
use Rattle.iocm_model.specs.Machine.Configuration.{lookup_of}
use Rattle.iocm_model.specs.Machine.Mask.{mask_from, is_online}
use Rattle.iocm_model.specs.Machine.Sight.{reaches}
use Rattle.iocm_reach.proofs.path_masks.masks_over.Given as goal

abbrev pub invariant-loop-path : goal.invariant-loop-path
invariant-loop-path g l = record {
  small_pim : l.pim + 2 * l.bit ≤ 256;
  small_pam : l.pam + 2 * l.bit ≤ 256;
  rest_pim : l.pim + mask_from l.bit (reaches (lookup_of l.image.records) l.image.image.css l.image.image.name)
      (drop l.path-index l.path-items)
      ≡ mask_from 128 (reaches (lookup_of l.image.records) l.image.image.css l.image.image.name) l.path-items;
  rest_pam : l.pam + mask_from l.bit (is_online (lookup_of l.image.records) l.image.image.css l.image.image.name)
      (drop l.path-index l.path-items)
      ≡ mask_from 128 (is_online (lookup_of l.image.records) l.image.image.css l.image.image.name) l.path-items;
}
