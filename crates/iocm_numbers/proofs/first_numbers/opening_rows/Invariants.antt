-- The rows so far, with those of the channel subsystems that are left, are those at the end.
use Rattle.std.proofs.Common.{◌≡◌, ◌++◌, drop}
use Rattle.std.specs.List.{flat_map}
use Rattle.iocm_model.specs.Machine.Numbering.{subsystems}
use Rattle.iocm_numbers.specs.Opening.{rows_of, rows_at_opening}
use Rattle.iocm_numbers.proofs.FirstPlaces.{gathered}
use Rattle.iocm_numbers.proofs.first_numbers.opening_rows.Given as goal

abbrev pub invariant-loop-number : goal.invariant-loop-number
invariant-loop-number g l =
    l.rows.items ++ flat_map (λ css. rows_of css (gathered l.config.records)) (drop l.number subsystems)
    ≡ rows_at_opening l.config.records
