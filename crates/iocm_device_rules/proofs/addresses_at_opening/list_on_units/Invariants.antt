-- The addresses so far, with those on the units that are left, are all.
use Rattle.std.proofs.Common.{◌≡◌, ◌++◌, drop}
use Rattle.iocm_device_rules.specs.OnUnits.{numbers_of}
use Rattle.iocm_device_rules.proofs.addresses_at_opening.list_on_units.Given as goal

abbrev pub invariant-loop-unit : goal.invariant-loop-unit
invariant-loop-unit g l =
    l.listed.items ++ numbers_of l.address (drop l.unit-index l.units) ≡ l.fn.listed.items
    ++ numbers_of l.address l.units
