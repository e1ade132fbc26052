-- The number cells so far, with the devices that have them.
use Rattle.std.proofs.Common.{◌≡◌, take, map}
use Rattle.iocm_activate.specs.OnlyEdit.{holder_after}
use Rattle.iocm_activate.proofs.only_edit.list_holders.Given as goal

abbrev pub invariant-loop-change : goal.invariant-loop-change
invariant-loop-change l = l.listed.items ≡ map holder_after (take l.change-index l.changes)
