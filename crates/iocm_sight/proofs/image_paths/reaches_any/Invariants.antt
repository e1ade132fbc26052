-- None of the paths so far is reached.
use Rattle.std.proofs.Common.{◌≡◌, drop}
use Rattle.std.specs.List.{list_any}
use Rattle.iocm_model.specs.Machine.Configuration.{lookup_of}
use Rattle.iocm_model.specs.Machine.PathList.{paths_in}
use Rattle.iocm_model.specs.Machine.Sight.{reaches}
use Rattle.iocm_sight.proofs.image_paths.reaches_any.Given as goal

abbrev pub invariant-loop-path : goal.invariant-loop-path
invariant-loop-path l = let reached = reaches (lookup_of l.config.records) l.css l.name in
    list_any reached (paths_in l.css (drop l.path-index l.paths)) ≡ list_any reached (paths_in l.css l.paths)
