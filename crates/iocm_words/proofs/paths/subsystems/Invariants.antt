use Rattle.std.proofs.Common.{◌≡◌}
use Rattle.std.specs.List.{flat_map, range_with_len}
use Rattle.iocm_words.specs.Paths as meaning
use Rattle.iocm_words.proofs.paths.subsystems.Given as goal

-- the channel subsystems so far
abbrev pub invariant-loop-number : goal.invariant-loop-number
invariant-loop-number l = l.members.items ≡ flat_map (meaning.member_of l.paths) (range_with_len 0 l.number)
