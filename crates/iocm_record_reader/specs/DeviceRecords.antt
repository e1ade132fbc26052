-- The records of an IODEVICE statement, one for each device.
-- IOCP User's Guide, IODEVICE statement; the defaults are own.
use Rattle.std.specs.Prelude.{ℕ, ◌+◌, ◌%◌, Option, None, Some, List, [], map, Result, Ok, codes}
use Rattle.std.specs.List.{range_with_len}
use Rattle.std.specs.Option.{option_map}
use Rattle.iocm_types.specs.declared.fault.Fault.{Fault}
use Rattle.iocm_types.specs.Fault.{◌>>=◌}
use Rattle.iocm_statements.specs.declared.operation.Operation.TheVariants.{Iodevice}
use Rattle.iocm_statements.specs.Operands.{Operand}
use Rattle.iocm_model.specs.Machine.Record.{Rec, CarriedOperand, DeviceRecord, device}
use Rattle.iocm_operands.specs.declared.device.Devices.{Devices}
use Rattle.iocm_operands.specs.Device.{devices_of, units_of, first_address, set_of, candidates_of}
use Rattle.iocm_record_reader.specs.Values.{required, optional, carried_by}

-- the devices of the statement
abbrev pub statement_devices : Fault → List Operand → Result Devices Fault
statement_devices fault operands = required fault devices_of (codes "ADDRESS") operands

-- the units of CUNUMBR; without it none
abbrev pub device_units : Fault → List Operand → Result (List ℕ) Fault
device_units fault operands = optional fault units_of [] (codes "CUNUMBR") operands

-- the unit address of the first of so many devices, if UNITADD is there
abbrev pub device_address : Fault → ℕ → List Operand → Result (Option ℕ) Fault
device_address fault count operands =
    optional fault (λ v. option_map Some (first_address count v)) None (codes "UNITADD") operands

-- without SCHSET set 0
abbrev pub device_set : Fault → List Operand → Result ℕ Fault
device_set fault operands = optional fault set_of 0 (codes "SCHSET") operands

-- the candidates, if PARTITION is there
abbrev pub device_candidates : Fault → List Operand → Result (Option (List (List ℕ))) Fault
device_candidates fault operands =
    optional fault (λ v. option_map Some (candidates_of v)) None (codes "PARTITION") operands

-- the unit address of the device at a place: one more for each device, or the last two digits of
-- its number
abbrev pub address_at : Option ℕ → ℕ → ℕ → ℕ
address_at (Some first) place number = first + place
address_at None place number = number % 256

-- the device at a place of its statement, where the statement's first device is this one
abbrev pub device_record : DeviceRecord → Option ℕ → ℕ → Rec
device_record first address place = device (record first {
  number = first.number + place;
  unit_address = address_at address place (first.number + place);
})

-- the records of so many devices
abbrev pub device_records : DeviceRecord → Option ℕ → ℕ → List Rec
device_records first address count = map (device_record first address) (range_with_len 0 count)

-- the first device of a statement, without its unit address
abbrev pub first_device : ℕ → Devices → List ℕ → Option (List (List ℕ)) → List CarriedOperand → DeviceRecord
first_device set d units candidates carried =
    record { set = set; number = d.first; units = units; unit_address = 0; candidates = candidates; carried = carried }

abbrev pub iodevice_records : Fault → List Operand → Result (List Rec) Fault
iodevice_records fault operands =
    statement_devices fault operands >>= λ (d : Devices). device_units fault operands >>= λ units.
    device_address fault d.count operands >>= λ address. device_set fault operands >>= λ set.
    device_candidates fault operands >>= λ candidates.
    Ok (device_records (first_device set d units candidates (carried_by Iodevice operands)) address d.count)
