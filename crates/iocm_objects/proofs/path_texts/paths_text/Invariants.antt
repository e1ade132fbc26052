-- The groups so far.
use Rattle.std.proofs.Common.{◌≡◌, map, take}
use Rattle.iocm_objects.specs.Paths.{group_text}
use Rattle.iocm_objects.proofs.path_texts.paths_text.Given as goal

abbrev pub invariant-loop-group : goal.invariant-loop-group
invariant-loop-group l = l.texts.items ≡ map (group_text l.members.items) (take l.group-index l.group-items)
