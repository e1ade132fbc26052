use Rattle.std.proofs.Common.{◌≡◌, take}
use Rattle.iocm_words.specs.Groups as meaning
use Rattle.iocm_words.proofs.groups.words_in.Given as goal

-- the words so far that are of the group
abbrev pub invariant-loop-member : goal.invariant-loop-member
invariant-loop-member l = l.words.items ≡ meaning.words_in (take l.member-index l.members) l.group
