-- The channel subsystems so far that have paths.
use Rattle.std.proofs.Common.{◌≡◌, take}
use Rattle.std.specs.List.{flat_map}
use Rattle.iocm_objects.specs.Paths.{member_of}
use Rattle.iocm_objects.proofs.path_texts.members_of.Given as goal

abbrev pub invariant-loop-css : goal.invariant-loop-css
invariant-loop-css l = l.members.items ≡ flat_map (member_of l.paths) (take l.css-index l.css-items)
