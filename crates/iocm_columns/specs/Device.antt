-- What is known of a device that is read.
use Rattle.std.specs.Prelude.{◌≡◌, ◌⊎◌, ℕ, Bool, true, false}
use Rattle.iocm_types.specs.declared.fault.Fault.{Fault}
use Rattle.iocm_types.specs.declared.rule.Rule.TheVariants.{L5}
use Rattle.iocm_types.specs.Fault.{at}
use Rattle.iocm_columns.specs.declared.device.Device.{Device}

-- the reader behind the device
abbrev pub reader_of : {R : Type 0} → Device R → R
reader_of device = device.reader

-- how often it was read
abbrev pub reads_of : {R : Type 0} → Device R → ℕ
reads_of device = device.reads

-- whether a read failed
abbrev pub has_failed : {R : Type 0} → Device R → Bool
has_failed device = device.failed

-- whether a read gave the end
abbrev pub has_ended : {R : Type 0} → Device R → Bool
has_ended device = device.ended

-- a device that cannot be read to its end, which stands at no line
abbrev pub unreadable : Fault
unreadable = at L5 0

-- a device that neither failed nor came to its end
abbrev pub IsOpen : {R : Type 0} → Device R → Type 0
IsOpen device = (has_failed device ≡ false) × (has_ended device ≡ false)

-- a device that was read to its end and never failed
abbrev pub IsWhole : {R : Type 0} → Device R → Type 0
IsWhole device = (has_ended device ≡ true) × (has_failed device ≡ false)

-- a device that failed, or was read as often as is allowed and did not come to its end
abbrev pub StopsShort : {R : Type 0} → Device R → ℕ → Type 0
StopsShort device most = (has_failed device ≡ true) ⊎ ((reads_of device ≡ most) × (has_ended device ≡ false))
