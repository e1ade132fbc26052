-- The bits so far, with those of the paths that are left, are the mask.
use Rattle.std.proofs.Common.{◌≡◌, ◌+◌, ◌*◌, ◌≤◌, drop}
use Rattle.iocm_model.specs.Machine.Configuration.{lookup_of}
use Rattle.iocm_model.specs.Machine.Mask.{mask_from}
use Rattle.iocm_model.specs.Machine.Sight.{reaches}
use Rattle.iocm_derive.proofs.masks.installed_paths.Given as goal

abbrev pub invariant-loop-path : goal.invariant-loop-path
invariant-loop-path g l = record {
  small : l.bits + 2 * l.bit ≤ 256;
  rest : l.bits + mask_from l.bit
      (reaches (lookup_of (g.R.Reach.records l.reach)) (g.R.Reach.subsystem l.reach) (g.R.Reach.called l.reach))
      (drop l.path-index l.path-items)
      ≡ mask_from 128 (reaches (lookup_of (g.R.Reach.records l.reach)) (g.R.Reach.subsystem l.reach)
      (g.R.Reach.called l.reach)) l.path-items;
}
