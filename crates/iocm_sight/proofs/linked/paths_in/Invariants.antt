-- The paths so far.
use Rattle.std.proofs.Common.{◌≡◌, take}
use Rattle.iocm_model.specs.Machine.PathList.{paths_in}
use Rattle.iocm_sight.proofs.linked.paths_in.Given as goal

abbrev pub invariant-loop-path : goal.invariant-loop-path
invariant-loop-path l = l.found.items ≡ paths_in l.css (take l.path-index l.paths)
