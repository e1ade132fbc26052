-- None of the units so far has one that was met.
use Rattle.std.proofs.Common.{◌≡◌, drop}
use Rattle.std.specs.List.{list_any}
use Rattle.iocm_device_rules.specs.OnUnits.{number_on}
use Rattle.iocm_breaches.specs.Addresses.{is_met}
use Rattle.iocm_breaches.proofs.addresses.is_any_met.Given as goal

abbrev pub invariant-loop-unit : goal.invariant-loop-unit
invariant-loop-unit g l = list_any (λ unit. is_met l.met (number_on l.address unit)) (drop l.unit-index l.units)
    ≡ list_any (λ unit. is_met l.met (number_on l.address unit)) l.units
