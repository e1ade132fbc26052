-- Devices on the same units.
use Rattle.std.specs.Prelude.{◌≡◌, ℕ, List, Option, None, Some}
use Rattle.iocm_model.specs.Machine.Record.{Rec, device}

-- the units of a device record
abbrev pub units_on : Rec → Option (List ℕ)
units_on (device d) = Some d.units
units_on _ = None

-- two devices have the same units in the same order
pub record AreOnSameUnits (a b : Rec) : Type 0 where
  pub units : List ℕ
  pub first : units_on a ≡ Some units
  pub second : units_on b ≡ Some units
