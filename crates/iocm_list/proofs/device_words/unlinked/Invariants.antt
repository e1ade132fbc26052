-- The paths so far.
use Rattle.std.proofs.Common.{◌≡◌, map, take}
use Rattle.iocm_list.specs.DeviceCells.{unlinked}
use Rattle.iocm_list.proofs.device_words.unlinked.Given as goal

abbrev pub invariant-loop-path : goal.invariant-loop-path
invariant-loop-path l = l.linked.items ≡ map unlinked (take l.path-index l.paths)
