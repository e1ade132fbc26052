-- None of the paths so far is reached.
use Rattle.std.proofs.Common.{◌≡◌, drop}
use Rattle.std.specs.List.{list_any}
use Rattle.iocm_model.specs.Machine.Configuration.{lookup_of}
use Rattle.iocm_model.specs.Machine.PathList.{paths_in}
use Rattle.iocm_model.specs.Machine.Sight.{reaches}
use Rattle.iocm_derive.proofs.sight.reaches_any.Given as goal

abbrev pub invariant-loop-path : goal.invariant-loop-path
invariant-loop-path g l =
    list_any (reaches (lookup_of (g.R.Reach.records l.reach)) (g.R.Reach.subsystem l.reach) (g.R.Reach.called l.reach))
    (paths_in (g.R.Reach.subsystem l.reach) (drop l.path-index l.paths))
    ≡ list_any (reaches (lookup_of (g.R.Reach.records l.reach)) (g.R.Reach.subsystem l.reach)
    (g.R.Reach.called l.reach)) (paths_in (g.R.Reach.subsystem l.reach) l.paths)
