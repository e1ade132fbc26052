-- Devices with one unit address on a unit, and the least that has that of another before it.
use Rattle.std.specs.Prelude.{ℕ, Bool, true, Option, None, Some}
use Rattle.iocm_types.specs.declared.key.Key.{Key}
use Rattle.iocm_types.specs.declared.key.Key.TheVariants as key
use Rattle.iocm_types.specs.declared.named.Named.TheVariants as thing
use Rattle.iocm_model.specs.Machine.Record.{Rec, unit, device}
use Rattle.iocm_model.specs.Machine.Configuration.{Lookup}
use Rattle.iocm_index.specs.Namings.{Namings}
use Rattle.iocm_lookup.specs.Among.{least_of}
use Rattle.iocm_lookup.specs.Repeats.{repeated_on}

-- the unit address of a device
abbrev pub unit_address : Rec → Option ℕ
unit_address (device d) = Some d.unit_address
unit_address _ = None

-- each device is looked for whose unit address one before it has
abbrev pub any_record : Rec → Bool
any_record r = true

-- of the users of a unit the first with the address of one before it
abbrev pub clash_on : Lookup → Namings → ℕ → Option Key
clash_on c index number = repeated_on unit_address any_record c index (thing.Record (key.Unit number))

-- that of a unit record
abbrev pub clash_of : Lookup → Namings → Rec → Option Key
clash_of c index (unit u) = clash_on c index u.number
clash_of c index _ = None

-- of the devices at one unit address of a unit the first that stands behind another
abbrev pub clash_beside : Lookup → Namings → ℕ → ℕ → Option Key
clash_beside c index address number = repeated_on unit_address any_record c index (thing.Address number address)

-- the least of these at the unit address of a device, on its units
abbrev pub clash_with : Lookup → Namings → Option Rec → Option Key
clash_with c index (Some (device d)) = least_of (clash_beside c index d.unit_address) None d.units
clash_with c index _ = None

-- that of the device at a key
abbrev pub clash_at : Lookup → Namings → Key → Option Key
clash_at c index k = clash_with c index (c k)
