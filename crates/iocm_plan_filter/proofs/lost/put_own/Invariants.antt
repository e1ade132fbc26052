-- The keys so far, with those of the paths that are left, are those before and all.
use Rattle.std.proofs.Common.{◌≡◌, ◌++◌, drop, map}
use Rattle.iocm_types.specs.declared.key.Key.TheVariants as key
use Rattle.iocm_plan_filter.proofs.lost.put_own.Given as goal

abbrev pub invariant-loop-path : goal.invariant-loop-path
invariant-loop-path l = l.way.items ++ map (key.Path l.css) (drop l.path-index l.paths)
    ≡ l.initial.way.items ++ map (key.Path l.css) l.paths
