-- A device that comes in the place of one that is seen alike and names the same things.
use Rattle.std.specs.Prelude.{◌≡◌, ℕ, Option, None, Some}
use Rattle.iocm_model.specs.Machine.Naming.{named_by}
use Rattle.iocm_model.specs.Machine.Record.{Rec, device}
use Rattle.iocm_affected.specs.Alike.{IsSeenAlike}

-- the unit address of a device
abbrev pub address_of : Rec → Option ℕ
address_of (device d) = Some d.unit_address
address_of _ = None

-- two records are devices of the same control units and candidates, and name the same things
pub record AreAlike (old new : Rec) : Type 0 where
  pub seen : IsSeenAlike old new
  pub named : named_by old ≡ named_by new

-- a record stood under a key, and the one that comes there is alike
pub record IsPutAlike (before after : Option Rec) : Type 0 where
  pub old : Rec
  pub new : Rec
  pub was_there : before ≡ Some old
  pub is_there : after ≡ Some new
  pub alike : AreAlike old new
