-- The devices that are left rise from the next number on, and the rows so far with theirs are those
-- at the end.
use Rattle.std.proofs.Common.{◌++◌, drop}
use Rattle.iocm_model.specs.Machine.Numbering.{numbers_from}
use Rattle.iocm_numbers.specs.Opening.{numbered}
use Rattle.iocm_numbers.proofs.FirstRows.{IsSoFar}
use Rattle.iocm_numbers.proofs.first_numbers.number_set.Given as goal

abbrev pub invariant-loop-device : goal.invariant-loop-device
invariant-loop-device g l =
    IsSoFar l.css l.set (numbered l.css l.set (drop l.device-index l.devices))
    (l.fn.rows.items ++ numbers_from l.css l.set 0 (numbered l.css l.set l.devices)) l.rows.items l.next
