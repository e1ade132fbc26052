-- The paths so far, with those of the rest, are all.
use Rattle.std.proofs.Common.{◌≡◌, ◌++◌, drop, map}
use Rattle.iocm_model.specs.Machine.PathList.{paths_in}
use Rattle.iocm_sight.specs.Seen.{css_path}
use Rattle.iocm_sight.proofs.unit_paths.put_own.Given as goal

abbrev pub invariant-loop-path : goal.invariant-loop-path
invariant-loop-path l = l.paths.items ++ map (css_path l.css) (paths_in l.css (drop l.path-index l.own))
    ≡ l.initial.paths.items ++ map (css_path l.css) (paths_in l.css l.own)
