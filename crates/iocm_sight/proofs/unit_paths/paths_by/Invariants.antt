-- The paths so far, with those in the channel subsystems that are left, are all.
use Rattle.std.proofs.Common.{◌≡◌, ◌++◌, drop, map}
use Rattle.std.specs.List.{flat_map}
use Rattle.iocm_model.specs.Machine.Configuration.{lookup_of}
use Rattle.iocm_model.specs.Machine.Numbering.{subsystems}
use Rattle.iocm_model.specs.Machine.PathList.{path_list}
use Rattle.iocm_sight.specs.Seen.{css_path, paths_by}
use Rattle.iocm_sight.proofs.unit_paths.paths_by.Given as goal

abbrev pub invariant-loop-number : goal.invariant-loop-number
invariant-loop-number l = let c = lookup_of l.config.records in
    l.paths.items ++ flat_map (λ css. map (css_path css) (path_list c css l.units)) (drop l.number subsystems)
    ≡ paths_by c l.units
