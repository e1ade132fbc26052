-- The words so far.
use Rattle.std.proofs.Common.{◌≡◌, map, take}
use Rattle.iocm_offon.specs.Reached as meaning
use Rattle.iocm_offon.proofs.reached.number_words.Given as goal

abbrev pub invariant-loop-group : goal.invariant-loop-group
invariant-loop-group l = l.words.items ≡ map (meaning.number_word l.members) (take l.group-index l.groups)
