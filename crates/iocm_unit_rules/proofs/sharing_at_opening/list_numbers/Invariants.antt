-- The addresses so far, with those of the units that are left, are those of all records.
use Rattle.std.proofs.Common.{◌≡◌, ◌++◌}
use Rattle.std.specs.List.{flat_map}
use Rattle.iocm_model.specs.Machine.Configuration.{records_of}
use Rattle.iocm_unit_rules.specs.LinkNumbers.{link_numbers}
use Rattle.iocm_unit_rules.proofs.sharing_at_opening.list_numbers.Given as goal

abbrev pub invariant-loop-entry : goal.invariant-loop-entry
invariant-loop-entry g l =
    l.listed.items ++ flat_map link_numbers l.entry-iterator ≡ flat_map link_numbers (records_of l.config.records)
