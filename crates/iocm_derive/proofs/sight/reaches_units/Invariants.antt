-- None of the units so far has a path that is reached.
use Rattle.std.proofs.Common.{◌≡◌, drop}
use Rattle.std.specs.List.{list_any}
use Rattle.iocm_model.specs.Machine.Configuration.{lookup_of}
use Rattle.iocm_model.specs.Machine.PathList.{path_list}
use Rattle.iocm_model.specs.Machine.Sight.{reaches}
use Rattle.iocm_derive.proofs.sight.reaches_units.Given as goal

abbrev pub invariant-loop-unit : goal.invariant-loop-unit
invariant-loop-unit g l =
    list_any (reaches (lookup_of (g.R.Reach.records l.reach)) (g.R.Reach.subsystem l.reach) (g.R.Reach.called l.reach))
    (path_list (lookup_of (g.R.Reach.records l.reach)) (g.R.Reach.subsystem l.reach) (drop l.unit-index l.units))
    ≡ list_any (reaches (lookup_of (g.R.Reach.records l.reach)) (g.R.Reach.subsystem l.reach)
    (g.R.Reach.called l.reach))
    (path_list (lookup_of (g.R.Reach.records l.reach)) (g.R.Reach.subsystem l.reach) l.units)
