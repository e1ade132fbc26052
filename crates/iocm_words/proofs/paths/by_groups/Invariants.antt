use Rattle.std.proofs.Common.{◌≡◌, map, take}
use Rattle.iocm_words.specs.Paths as meaning
use Rattle.iocm_words.proofs.paths.by_groups.Given as goal

-- the groups so far
abbrev pub invariant-loop-group : goal.invariant-loop-group
invariant-loop-group l = l.words.items ≡ map (meaning.group_word l.members) (take l.group-index l.groups)
