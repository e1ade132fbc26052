use Rattle.std.proofs.Common.{◌≡◌, take}
use Rattle.iocm_operands.proofs.unit.paths_in.Given as goal

abbrev pub invariant-loop-item : goal.invariant-loop-item
invariant-loop-item l = l.found.items ≡ take l.item-index l.items
