-- A device whose record changes, and that is reached and seen as before.
use Rattle.std.specs.Prelude.{◌≡◌, Option, Some}
use Rattle.iocm_model.specs.Machine.Record.{Rec, DeviceRecord, device}
use Rattle.iocm_record.specs.Lists.{Lists}

-- two records are those of devices of the same control units and candidates
pub record IsSeenAlike (old new : Rec) : Type 0 where
  pub before : DeviceRecord
  pub after : DeviceRecord
  pub old_is : old ≡ device before
  pub new_is : new ≡ device after
  pub units : before.units ≡ after.units
  pub candidates : before.candidates ≡ after.candidates

-- so is the record that was there, and the one that is there afterwards
pub record AreSeenAlike (was is : Option Rec) : Type 0 where
  pub old : Rec
  pub new : Rec
  pub was_there : was ≡ Some old
  pub is_there : is ≡ Some new
  pub alike : IsSeenAlike old new

-- the lists of two devices have the same control units and candidates
pub record HaveSameLists (old new : Lists) : Type 0 where
  pub units : old.units ≡ new.units
  pub candidates : old.candidates ≡ new.candidates
