-- The rows so far, with those of the sets that are left, are those at the end.
use Rattle.std.proofs.Common.{◌≡◌, ◌++◌, drop}
use Rattle.std.specs.List.{flat_map}
use Rattle.iocm_model.specs.Machine.Numbering.{numbers_from, sets}
use Rattle.iocm_numbers.specs.Opening.{numbered, rows_of}
use Rattle.iocm_numbers.proofs.first_numbers.number_subsystem.Given as goal

abbrev pub invariant-loop-number : goal.invariant-loop-number
invariant-loop-number g l =
    l.rows.items ++ flat_map (λ set. numbers_from l.css set 0 (numbered l.css set l.devices)) (drop l.number sets)
    ≡ l.fn.rows.items ++ rows_of l.css l.devices
