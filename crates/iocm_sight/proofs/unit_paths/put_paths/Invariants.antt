-- The paths so far, with those of the units that are left, are all.
use Rattle.std.proofs.Common.{◌≡◌, ◌++◌, drop, map}
use Rattle.iocm_model.specs.Machine.Configuration.{lookup_of}
use Rattle.iocm_model.specs.Machine.PathList.{path_list}
use Rattle.iocm_sight.specs.Seen.{css_path}
use Rattle.iocm_sight.proofs.unit_paths.put_paths.Given as goal

abbrev pub invariant-loop-unit : goal.invariant-loop-unit
invariant-loop-unit l = l.paths.items
    ++ map (css_path l.css) (path_list (lookup_of l.config.records) l.css (drop l.unit-index l.units))
    ≡ l.initial.paths.items ++ map (css_path l.css) (path_list (lookup_of l.config.records) l.css l.units)
