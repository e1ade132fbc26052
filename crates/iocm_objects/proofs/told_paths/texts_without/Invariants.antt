-- The paths so far that are not among the others.
use Rattle.std.proofs.Common.{◌≡◌, take}
use Rattle.iocm_objects.specs.ToldPaths.{texts_without}
use Rattle.iocm_objects.proofs.told_paths.texts_without.Given as goal

abbrev pub invariant-loop-path : goal.invariant-loop-path
invariant-loop-path l = l.texts.items ≡ texts_without l.others (take l.path-index l.paths)
