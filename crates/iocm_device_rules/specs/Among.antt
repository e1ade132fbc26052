-- Devices that clash only at some keys.
use Rattle.std.specs.Prelude.{◌≡◌, ◌&&◌, ◌||◌, true, List, Some}
use Rattle.iocm_types.specs.declared.key.Key.{Key}
use Rattle.iocm_model.specs.Machine.Record.{DeviceRecord, device}
use Rattle.iocm_model.specs.Machine.Configuration.{Configuration, lookup_of}
use Rattle.iocm_model.specs.Rules.EachRule.{stands_before, answers_on}
pub use Rattle.iocm_lookup.specs.Among.{is_one_of}

-- of two devices with one unit address and a common unit one is at these keys
abbrev pub AreClashesAt : List Key → Configuration → Type 0
AreClashesAt keys c = (key other : Key) (d e : DeviceRecord) → lookup_of c key ≡ Some (device d)
    → lookup_of c other ≡ Some (device e)
    → (stands_before (device e) (device d) && answers_on d.unit_address d.units (device e)) ≡ true
    → (is_one_of key keys || is_one_of other keys) ≡ true
