-- The groups so far.
use Rattle.std.proofs.Common.{◌≡◌, ◌++◌, map, take}
use Rattle.iocm_objects.specs.ToldPaths.{told_link}
use Rattle.iocm_objects.proofs.told_paths.put_links.Given as goal

abbrev pub invariant-loop-group : goal.invariant-loop-group
invariant-loop-group l = l.told.items ≡ l.fn.told.items ++ map (told_link l.members) (take l.group-index l.groups)
