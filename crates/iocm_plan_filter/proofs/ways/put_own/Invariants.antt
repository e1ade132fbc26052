-- The keys so far, with those of the paths that are left, are those before and all.
use Rattle.std.proofs.Common.{◌≡◌, ◌++◌, drop, map}
use Rattle.iocm_plan_filter.specs.Connected.{path_key}
use Rattle.iocm_plan_filter.proofs.ways.put_own.Given as goal

abbrev pub invariant-loop-path : goal.invariant-loop-path
invariant-loop-path l = l.keys.items ++ map path_key (drop l.path-index l.paths)
    ≡ l.initial.keys.items ++ map path_key l.paths
