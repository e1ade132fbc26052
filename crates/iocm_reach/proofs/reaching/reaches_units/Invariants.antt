-- None of the units so far has a path that is reached.
use Rattle.std.proofs.Common.{◌≡◌, drop}
use Rattle.std.specs.List.{list_any}
use Rattle.iocm_model.specs.Machine.Configuration.{lookup_of}
use Rattle.iocm_model.specs.Machine.PathList.{path_list}
use Rattle.iocm_model.specs.Machine.Sight.{reaches}
use Rattle.iocm_reach.proofs.reaching.reaches_units.Given as goal

abbrev pub invariant-loop-unit : goal.invariant-loop-unit
invariant-loop-unit g l =
    list_any (reaches (lookup_of l.image.records) l.image.image.css l.image.image.name)
    (path_list (lookup_of l.image.records) l.image.image.css (drop l.unit-index l.units))
    ≡ list_any (reaches (lookup_of l.image.records) l.image.image.css l.image.image.name)
    (path_list (lookup_of l.image.records) l.image.image.css l.units)
