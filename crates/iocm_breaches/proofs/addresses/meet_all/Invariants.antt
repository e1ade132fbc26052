-- What was met so far, with the address on the units that are left, is what is to be met.
use Rattle.std.proofs.Common.{◌≡◌, ℕ, ◌||◌, nat_eq, drop}
use Rattle.std.specs.List.{list_any}
use Rattle.iocm_device_rules.specs.OnUnits.{numbers_of}
use Rattle.iocm_breaches.specs.Addresses.{is_met}
use Rattle.iocm_breaches.proofs.addresses.meet_all.Given as goal

abbrev pub invariant-loop-unit : goal.invariant-loop-unit
invariant-loop-unit g l =
    (n : ℕ) → (list_any (nat_eq n) (numbers_of l.address (drop l.unit-index l.units)) || is_met l.met n)
    ≡ (list_any (nat_eq n) (numbers_of l.address l.units) || is_met l.fn.met n)
