-- Devices that have their unit address on a unit in common with one before them, found by one walk:
-- the addresses on units that were met so far tell.
use Rattle.std.specs.Prelude.{ℕ, ◌||◌, ◌<◌, nat_eq, Bool, List, [], ◌∷◌, ◌++◌}
use Rattle.std.specs.BTreeSet.{BTreeSet, contains}
use Rattle.std.specs.List.{list_any, AllByRecursion}
use Rattle.std.specs.Ordering.{nat_cmp}
use Rattle.iocm_types.specs.declared.rule.Rule.TheVariants.{V10}
use Rattle.iocm_model.specs.Machine.Record.{Rec, device}
use Rattle.iocm_model.specs.Rules.FirstBreach.{Breach}
use Rattle.iocm_device_rules.specs.OnUnits.{unit_numbers}
use Rattle.iocm_breaches.specs.Breaches.{breaches_of_rule}

-- the number of an address on a unit is one of those met
abbrev pub is_met : BTreeSet ℕ → ℕ → Bool
is_met met n = contains nat_cmp met n

-- a device has on one of its units an address that was met
abbrev pub meets : (ℕ → Bool) → Rec → Bool
meets met r = list_any met (unit_numbers r)

-- those met, and those of one record more
abbrev pub met_with : Rec → (ℕ → Bool) → ℕ → Bool
met_with r met n = list_any (nat_eq n) (unit_numbers r) || met n

-- of some records those that meet an address, or that of a record before them
unfoldable pub listed_from : (ℕ → Bool) → List Rec → List Breach
listed_from met [] = []
listed_from met (r ∷ rs) = breaches_of_rule V10 (meets met) (r ∷ []) ++ listed_from (met_with r met) rs

-- the unit address of a device has eight bits
abbrev pub HasByte : Rec → Type 0
HasByte (device d) = d.unit_address < 256
HasByte _ = Unit {0}

abbrev pub HaveBytes : List Rec → Type 0
HaveBytes rs = AllByRecursion HasByte rs
