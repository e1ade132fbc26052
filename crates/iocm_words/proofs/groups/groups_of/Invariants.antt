use Rattle.std.proofs.Common.{◌≡◌, take}
use Rattle.iocm_words.specs.Groups as meaning
use Rattle.iocm_words.proofs.groups.groups_of.Given as goal

-- the groups of the words so far
abbrev pub invariant-loop-member : goal.invariant-loop-member
invariant-loop-member l = l.groups.items ≡ meaning.groups_of (take l.member-index l.members)
