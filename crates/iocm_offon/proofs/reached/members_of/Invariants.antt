-- The members so far.
use Rattle.std.proofs.Common.{◌≡◌, map, take}
use Rattle.iocm_offon.specs.Reached as meaning
use Rattle.iocm_offon.proofs.reached.members_of.Given as goal

abbrev pub invariant-loop-path : goal.invariant-loop-path
invariant-loop-path l = l.members.items ≡ map meaning.member (take l.path-index l.paths)
