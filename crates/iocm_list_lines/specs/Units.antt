-- The lines of control units. Operands are named by their keywords.
use Rattle.std.specs.Prelude.{ℕ, List, [], ◌∷◌, codes}
use Rattle.std.specs.List.{flat_map}
use Rattle.iocm_types.specs.Print.{hex4}
use Rattle.iocm_model.specs.Machine.Configuration.{Configuration}
use Rattle.iocm_filter.specs.Wanted.{Wanted}
use Rattle.iocm_words.specs.Ranges.{devices_word}
use Rattle.iocm_words.specs.declared.ranges.DeviceNumbers.{DeviceNumbers}
use Rattle.iocm_list.specs.UnitRows.{unit_rows}
use Rattle.iocm_list.specs.declared.unit_row.UnitRow.{UnitRow}
use Rattle.serde_json.specs.Data.{Data, string}
use Rattle.iocm_lines.specs.Lines.{line}
use Rattle.iocm_lines.specs.Members.{object_of, count}
use Rattle.iocm_record_lines.specs.Lists.{list_of}
use Rattle.iocm_record_lines.specs.Records.{cuadd_value, range_value, unit_path_value}
use Rattle.iocm_list_lines.specs.Members.{text_value}

-- a range of devices, as `--device` takes it
abbrev pub devices_value : DeviceNumbers → Data
devices_value d = string (devices_word d)

-- what is listed of a control unit
abbrev pub unit_members : UnitRow → List (List ℕ × Data)
unit_members r =
    (codes "UNIT", text_value r.unit_type)
    ∷ (codes "cuadd", cuadd_value r.cuadd)
    ∷ (codes "devices", count r.devices)
    ∷ (codes "paths", list_of unit_path_value r.paths)
    ∷ (codes "ranges", list_of devices_value r.ranges)
    ∷ (codes "type", string (codes "unit"))
    ∷ (codes "unit", string (hex4 r.number))
    ∷ (codes "unitadd", list_of range_value r.addresses) ∷ []

abbrev pub unit_value : UnitRow → Data
unit_value r = object_of (unit_members r)

unfoldable pub unit_line : UnitRow → List ℕ
unit_line r = line (unit_value r)

-- a line for each of the control units that filters leave
abbrev pub unit_lines : Wanted → Configuration → List ℕ
unit_lines w c = flat_map unit_line (unit_rows w c)
