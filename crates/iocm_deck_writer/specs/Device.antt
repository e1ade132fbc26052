-- The IODEVICE statements of a configuration: devices that follow each other are joined in one
-- statement, as many as can be.
use Rattle.std.specs.Prelude.{ℕ, ◌+◌, ◌==◌, ◌&&◌, nat_eq, Bool, true, false, if◌then◌else◌}
use Rattle.std.specs.Prelude.{Option, None, Some, List, [], ◌∷◌, ◌++◌, map, codes}
use Rattle.std.specs.List.{flat_map}
use Rattle.std.specs.Option.{option_map}
use Rattle.std.specs.Cmp.Lexicographic.{pointwise}
use Rattle.std.specs.Str.{bytes_eq}
use Rattle.iocm_types.specs.Print.{hex1, hex2}
use Rattle.iocm_model.specs.Machine.Record.{Rec, CarriedOperand, DeviceRecord, device}
use Rattle.iocm_statements.specs.declared.operation.Operation.TheVariants.{Iodevice}
use Rattle.iocm_operands.specs.Device.{devices_text, units_text}
use Rattle.iocm_values.specs.NameSet.{names_text}
use Rattle.iocm_deck_writer.specs.Statement.{Statement, valued, if_any}

-- the device of a record, if it is one
abbrev pub devices_of : Rec → List DeviceRecord
devices_of (device d) = d ∷ []
devices_of _ = []

-- the same keyword, or none
abbrev pub same_keyword : Option (List ℕ) → Option (List ℕ) → Bool
same_keyword None None = true
same_keyword (Some a) (Some b) = bytes_eq a b
same_keyword _ _ = false

abbrev pub same_operand : CarriedOperand → CarriedOperand → Bool
same_operand a b = same_keyword a.keyword b.keyword && bytes_eq a.text b.text

-- the same candidates, or no list of them
abbrev pub same_candidates : Option (List (List ℕ)) → Option (List (List ℕ)) → Bool
same_candidates None None = true
same_candidates (Some a) (Some b) = pointwise bytes_eq a b
same_candidates _ _ = false

-- two devices are alike in all but their numbers and unit addresses
abbrev pub are_alike : DeviceRecord → DeviceRecord → Bool
are_alike a b =
    (a.set == b.set) && pointwise nat_eq a.units b.units && same_candidates a.candidates b.candidates
    && pointwise same_operand a.carried b.carried

-- a run of devices that one statement writes: the first, and how many there are
pub record Run : Type 0 where
  pub first : DeviceRecord
  pub count : ℕ

-- a device is the next of a run: its number and its unit address are those of the first and the
-- count, and all else is alike
abbrev pub continues : Run → DeviceRecord → Bool
continues r d =
    (d.number == r.first.number + r.count) && (d.unit_address == r.first.unit_address + r.count)
    && are_alike r.first d

-- a run and those that follow it: a device that continues the run makes it longer, another one
-- begins a run
abbrev pub runs_from : Run → List DeviceRecord → List Run
runs_from r [] = r ∷ []
runs_from r (d ∷ ds) =
    if continues r d then runs_from (record { first = r.first; count = r.count + 1 }) ds
    else r ∷ runs_from (record { first = d; count = 1 }) ds

-- the maximal runs of devices in the order of their keys
abbrev pub runs : List DeviceRecord → List Run
runs [] = []
runs (d ∷ ds) = runs_from (record { first = d; count = 1 }) ds

-- SCHSET is left out for subchannel set 0
abbrev pub set_operand : ℕ → Option (List ℕ)
set_operand set = if set == 0 then None else Some (hex1 set)

-- the operands of a run
abbrev pub iodevice_operands : Run → List CarriedOperand
iodevice_operands r =
    valued (codes "ADDRESS") (Some (devices_text (record { first = r.first.number; count = r.count })))
    ++ (valued (codes "CUNUMBR") (if_any r.first.units (units_text r.first.units))
    ++ (valued (codes "UNITADD") (Some (hex2 r.first.unit_address))
    ++ (valued (codes "SCHSET") (set_operand r.first.set)
    ++ valued (codes "PARTITION") (option_map names_text r.first.candidates))))

abbrev pub iodevice_statement : Run → Statement
iodevice_statement r = record { operation = Iodevice; operands = iodevice_operands r ++ r.first.carried }

-- the statements of the devices among these records
abbrev pub iodevice_statements : List Rec → List Statement
iodevice_statements records = map iodevice_statement (runs (flat_map devices_of records))
