-- The names so far that are not among the others.
use Rattle.std.proofs.Common.{◌≡◌, take}
use Rattle.iocm_objects.specs.Differing.{without}
use Rattle.iocm_objects.proofs.differing.without.Given as goal

abbrev pub invariant-loop-name : goal.invariant-loop-name
invariant-loop-name l = l.texts.items ≡ without l.others (take l.name-index l.names)
