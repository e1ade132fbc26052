-- The paths so far are at other places.
use Rattle.std.proofs.Common.{◌≡◌, drop}
use Rattle.iocm_objects.specs.ToldPaths.{at_place}
use Rattle.iocm_objects.proofs.told_paths.at_place.Given as goal

abbrev pub invariant-loop-other : goal.invariant-loop-other
invariant-loop-other l = at_place l.path (drop l.other-index l.paths) ≡ at_place l.path l.paths
