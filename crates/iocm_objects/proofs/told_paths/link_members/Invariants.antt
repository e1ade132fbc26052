-- The paths so far that stay with another link.
use Rattle.std.proofs.Common.{◌≡◌, take}
use Rattle.iocm_objects.specs.ToldPaths.{link_members}
use Rattle.iocm_objects.proofs.told_paths.link_members.Given as goal

abbrev pub invariant-loop-path : goal.invariant-loop-path
invariant-loop-path l = l.members.items ≡ link_members l.new (take l.path-index l.old)
