-- The items so far.
use Rattle.std.proofs.Common.{◌≡◌, ◌++◌, take}
use Rattle.iocm_objects.specs.Differing.{signed}
use Rattle.iocm_objects.proofs.differing.put_signed.Given as goal

abbrev pub invariant-loop-item : goal.invariant-loop-item
invariant-loop-item l = l.text.items ≡ l.fn.text.items ++ signed l.sign (take l.item-index l.items)
