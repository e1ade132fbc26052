-- Records as lines tell them. Numbers in hexadecimal are texts of the same digits as in a deck; channel
-- subsystems, subchannel sets, limits and counts are numbers.
use Rattle.std.specs.Prelude.{ℕ, List, [], ◌∷◌, codes, Option, None, Some}
use Rattle.std.specs.List.{flat_map}
use Rattle.std.specs.Option.{option_map}
use Rattle.std.specs.FinMap.{entries}
use Rattle.iocm_types.specs.declared.key.Key.{Key}
use Rattle.iocm_types.specs.declared.link.Link.{Link}
use Rattle.iocm_types.specs.declared.link.Link.TheVariants as link
use Rattle.iocm_types.specs.declared.path_kind.PathKind.{PathKind}
use Rattle.iocm_types.specs.declared.path_kind.PathKind.TheVariants.{Dedicated, Shared, Reconfigurable}
use Rattle.iocm_types.specs.declared.unit_range.UnitRange.{UnitRange}
use Rattle.iocm_types.specs.Key.{key_text}
use Rattle.iocm_types.specs.Print.{hex2, hex4}
use Rattle.iocm_model.specs.Machine.Configuration.{Configuration}
use Rattle.iocm_model.specs.Machine.Record.{Rec, CarriedOperand, ImageRecord, LimitRecord, PathRecord, UnitRecord}
use Rattle.iocm_model.specs.Machine.Record.{DeviceRecord, OnlineRecord, id, resource, image, limit, path, unit}
use Rattle.iocm_model.specs.Machine.Record.{device, online}
use Rattle.serde_json.specs.Data.{Data, null, string}
use Rattle.iocm_lines.specs.Lines.{line}
use Rattle.iocm_lines.specs.Members.{object_of, if_there, count, image_name}
use Rattle.iocm_sight.specs.Linked.{linked_paths}
use Rattle.iocm_words.specs.declared.paths.LinkedPath.{LinkedPath}
use Rattle.iocm_record_lines.specs.Lists.{list_of}

-- ---- what records have in common

-- an operand that is carried along: its keyword, if it has one, and its text as it stands
abbrev pub operand_value : CarriedOperand → Data
operand_value c = object_of (if_there (codes "keyword") (option_map string c.keyword) ((codes "text", string c.text) ∷ []))

-- such operands in their order
abbrev pub operands_value : List CarriedOperand → Data
operands_value carried = list_of operand_value carried

-- names of images
abbrev pub names_value : List (List ℕ) → Data
names_value names = list_of string names

-- ---- each kind of record

-- of ID and RESOURCE: what the statement carries along
abbrev pub statement_value : List ℕ → List CarriedOperand → Data
statement_value kind carried =
    object_of ((codes "kind", string kind) ∷ (codes "operands", operands_value carried) ∷ [])

abbrev pub image_value : ImageRecord → Data
image_value r =
    object_of (
    (codes "css", count r.css)
    ∷ (codes "image", string (image_name (record { css = r.css; mif = r.mif })))
    ∷ (codes "kind", string (codes "image"))
    ∷ (codes "name", string r.name) ∷ [])

abbrev pub limit_value : LimitRecord → Data
limit_value r =
    object_of (
    (codes "css", count r.css)
    ∷ (codes "kind", string (codes "limit"))
    ∷ (codes "limit", count r.limit)
    ∷ (codes "set", count r.set) ∷ [])

-- how images use a channel path
abbrev pub use_text : PathKind → List ℕ
use_text Dedicated = codes "dedicated"
use_text Shared = codes "shared"
use_text Reconfigurable = codes "reconfigurable"

abbrev pub path_value : PathRecord → Data
path_value r =
    object_of (
    (codes "access", names_value r.access)
    ∷ (codes "candidates", names_value r.candidates)
    ∷ (codes "css", count r.css)
    ∷ (codes "kind", string (codes "path"))
    ∷ (codes "operands", operands_value r.carried)
    ∷ (codes "path", string (hex2 r.number))
    ∷ (codes "use", string (use_text r.kind)) ∷ [])

-- a link; null is one that is written as two asterisks
abbrev pub link_value : Link → Data
link_value link.None = null
link_value (link.Short number) = string (hex2 number)
link_value (link.Long number) = string (hex4 number)

abbrev pub unit_path_value : LinkedPath → Data
unit_path_value p =
    object_of (
    (codes "css", count p.css)
    ∷ if_there (codes "link") (option_map link_value p.link) ((codes "path", string (hex2 p.path)) ∷ []))

-- a range of unit addresses
abbrev pub range_value : UnitRange → Data
range_value r = object_of ((codes "count", count r.count) ∷ (codes "first", string (hex2 r.start)) ∷ [])

-- the control unit address, or null
abbrev pub cuadd_value : Option ℕ → Data
cuadd_value None = null
cuadd_value (Some number) = string (hex2 number)

abbrev pub unit_value : UnitRecord → Data
unit_value r =
    object_of (
    (codes "cuadd", cuadd_value r.cuadd)
    ∷ (codes "kind", string (codes "unit"))
    ∷ (codes "operands", operands_value r.carried)
    ∷ (codes "paths", list_of unit_path_value (linked_paths r))
    ∷ (codes "unit", string (hex4 r.number))
    ∷ (codes "unitadd", list_of range_value r.ranges) ∷ [])

-- the images that may use a device, or null for all
abbrev pub candidates_value : Option (List (List ℕ)) → Data
candidates_value None = null
candidates_value (Some names) = names_value names

-- the number of a control unit
abbrev pub number_value : ℕ → Data
number_value number = string (hex4 number)

abbrev pub device_value : DeviceRecord → Data
device_value r =
    object_of (
    (codes "address", string (hex2 r.unit_address))
    ∷ (codes "candidates", candidates_value r.candidates)
    ∷ (codes "device", string (hex4 r.number))
    ∷ (codes "kind", string (codes "device"))
    ∷ (codes "operands", operands_value r.carried)
    ∷ (codes "set", count r.set)
    ∷ (codes "units", list_of number_value r.units) ∷ [])

abbrev pub online_value : OnlineRecord → Data
online_value r =
    object_of (
    (codes "css", count r.css)
    ∷ (codes "kind", string (codes "online"))
    ∷ (codes "name", string r.name)
    ∷ (codes "path", string (hex2 r.path)) ∷ [])

abbrev pub record_value : Rec → Data
record_value (id carried) = statement_value (codes "id") carried
record_value (resource carried) = statement_value (codes "resource") carried
record_value (image r) = image_value r
record_value (limit r) = limit_value r
record_value (path r) = path_value r
record_value (unit r) = unit_value r
record_value (device r) = device_value r
record_value (online r) = online_value r

-- ---- lines

-- a record under its key
abbrev pub record_line_value : Key × Rec → Data
record_line_value e =
    object_of (
    (codes "key", string (key_text e.0))
    ∷ (codes "record", record_value e.1)
    ∷ (codes "type", string (codes "record")) ∷ [])

-- the records of a configuration, a line for each, in the order of keys
abbrev pub record_lines : Configuration → List ℕ
record_lines c = flat_map (λ e. line (record_line_value e)) (entries c)
