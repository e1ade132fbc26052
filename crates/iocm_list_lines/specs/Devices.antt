-- The lines of runs of devices. Operands are named by their keywords.
use Rattle.std.specs.Prelude.{ℕ, ◌+◌, ◌-◌, List, [], ◌∷◌, codes}
use Rattle.std.specs.List.{flat_map}
use Rattle.iocm_types.specs.Print.{hex2, hex4}
use Rattle.iocm_model.specs.Machine.Configuration.{Configuration}
use Rattle.iocm_filter.specs.Wanted.{Wanted}
use Rattle.iocm_list.specs.DeviceRows.{DeviceRow, device_rows}
use Rattle.iocm_sight.specs.declared.seen_by.SeenBy.{SeenBy}
use Rattle.serde_json.specs.Data.{Data, string}
use Rattle.iocm_lines.specs.Lines.{line}
use Rattle.iocm_lines.specs.Members.{object_of, count, image_name}
use Rattle.iocm_record_lines.specs.Lists.{list_of}
use Rattle.iocm_record_lines.specs.Records.{number_value}
use Rattle.iocm_list_lines.specs.Members.{path_value, text_value}

-- an image that sees devices, with how many of their paths are installed in it, and online to it
abbrev pub seen_members : SeenBy → List (List ℕ × Data)
seen_members s =
    (codes "image", string (image_name s.image))
    ∷ (codes "installed", count s.installed)
    ∷ (codes "name", string s.name)
    ∷ (codes "online", count s.online) ∷ []

abbrev pub seen_value : SeenBy → Data
seen_value s = object_of (seen_members s)

-- what is listed of a run of devices; the unit address is that of the first
abbrev pub device_members : DeviceRow → List (List ℕ × Data)
device_members r =
    (codes "UNIT", text_value r.device_type)
    ∷ (codes "address", string (hex2 r.unit_address))
    ∷ (codes "count", count r.count)
    ∷ (codes "first", string (hex4 r.first))
    ∷ (codes "images", list_of seen_value r.images)
    ∷ (codes "last", string (hex4 (r.first + r.count - 1)))
    ∷ (codes "paths", list_of path_value r.paths)
    ∷ (codes "set", count r.set)
    ∷ (codes "type", string (codes "devices"))
    ∷ (codes "units", list_of number_value r.units) ∷ []

abbrev pub device_value : DeviceRow → Data
device_value r = object_of (device_members r)

unfoldable pub device_line : DeviceRow → List ℕ
device_line r = line (device_value r)

-- a line for each run of the devices that filters leave
abbrev pub device_lines : Wanted → Configuration → List ℕ
device_lines w c = flat_map device_line (device_rows w c)
