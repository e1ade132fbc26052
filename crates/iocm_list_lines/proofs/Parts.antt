-- Objects that are put part by part.
use Rattle.std.proofs.Common.{◌≡◌, ℕ, ◌+◌, ◌-◌, List, [], ◌∷◌, ◌++◌, codes, decimal, sym, ◌∙◌, append_assoc, append-nil}
use Rattle.json.specs.Print.{escape_byte, quoted}
use Rattle.iocm_types.specs.Print.{hex2, hex4}
use Rattle.iocm_lines.specs.Members.{image_name}
use Rattle.iocm_list.specs.DeviceRows.{DeviceRow}
use Rattle.iocm_list.specs.ImageRows.{ImageRow}
use Rattle.iocm_list.specs.declared.path_row.PathRow.{PathRow}
use Rattle.iocm_sight.specs.declared.seen_by.SeenBy.{SeenBy}
use Rattle.iocm_list.specs.declared.unit_row.UnitRow.{UnitRow}
use Rattle.serde_json.specs.Written.{compact_text}
use Rattle.iocm_record_lines.specs.Lists.{list_of}
use Rattle.iocm_record_lines.specs.Records.{cuadd_value, names_value, number_value, range_value, unit_path_value}
use Rattle.iocm_record_lines.specs.Records.{use_text}
use Rattle.iocm_list_lines.specs.Devices.{device_value, seen_value}
use Rattle.iocm_list_lines.specs.Images.{image_value, set_value}
use Rattle.iocm_list_lines.specs.Members as members
use Rattle.iocm_list_lines.specs.Members.{text_value}
use Rattle.iocm_list_lines.specs.Paths.{path_value}
use Rattle.iocm_list_lines.specs.Units.{devices_value, unit_value}

-- texts that are put one behind the other, and the text of all
abbrev pub put_all : List ℕ → List (List ℕ) → List ℕ
put_all old [] = old
put_all old (part ∷ more) = put_all (old ++ part) more

abbrev pub all_of : List (List ℕ) → List ℕ
all_of [] = []
all_of (part ∷ more) = part ++ all_of more

one_behind_other : (old : List ℕ) (parts : List (List ℕ)) → put_all old parts ≡ old ++ all_of parts
one_behind_other old [] = sym (append-nil old)
one_behind_other old (part ∷ more) = one_behind_other (old ++ part) more ∙ append_assoc old part (all_of more)

-- ---- a channel path

abbrev pub path_parts : PathRow → List (List ℕ)
path_parts r =
    (codes "{\"AID\":" ++ compact_text (text_value r.texts.aid))
    ∷ (codes ",\"PCHID\":" ++ compact_text (text_value r.texts.pchid))
    ∷ (codes ",\"PORT\":" ++ compact_text (text_value r.texts.port))
    ∷ (codes ",\"SWITCH\":" ++ compact_text (text_value r.texts.switch))
    ∷ (codes ",\"TYPE\":" ++ compact_text (text_value r.texts.channel_type))
    ∷ (codes ",\"VCHID\":" ++ compact_text (text_value r.texts.vchid))
    ∷ (codes ",\"css\":" ++ decimal r.css)
    ∷ (codes ",\"devices\":" ++ decimal r.devices)
    ∷ codes ",\"offline\":" ∷ compact_text (names_value r.offline)
    ∷ codes ",\"online\":" ∷ compact_text (names_value r.online)
    ∷ (codes ",\"path\":" ++ quoted (hex2 r.number))
    ∷ codes ",\"type\":\"path\",\"units\":" ∷ compact_text (list_of number_value r.units)
    ∷ (codes ",\"use\":" ++ quoted (use_text r.kind))
    ∷ (125 ∷ []) ∷ []

pub path_put : (old : List ℕ) (r : PathRow) → put_all old (path_parts r) ≡ old ++ compact_text (path_value r)
unfolding escape_byte
path_put old r = one_behind_other old (path_parts r)

-- ---- a control unit

abbrev pub unit_parts : UnitRow → List (List ℕ)
unit_parts r =
    (codes "{\"UNIT\":" ++ compact_text (text_value r.unit_type))
    ∷ (codes ",\"cuadd\":" ++ compact_text (cuadd_value r.cuadd))
    ∷ (codes ",\"devices\":" ++ decimal r.devices)
    ∷ codes ",\"paths\":" ∷ compact_text (list_of unit_path_value r.paths)
    ∷ codes ",\"ranges\":" ∷ compact_text (list_of devices_value r.ranges)
    ∷ (codes ",\"type\":\"unit\",\"unit\":" ++ quoted (hex4 r.number))
    ∷ codes ",\"unitadd\":" ∷ compact_text (list_of range_value r.addresses)
    ∷ (125 ∷ []) ∷ []

pub unit_put : (old : List ℕ) (r : UnitRow) → put_all old (unit_parts r) ≡ old ++ compact_text (unit_value r)
unfolding escape_byte
unit_put old r = one_behind_other old (unit_parts r)

-- ---- a run of devices

abbrev pub seen_parts : SeenBy → List (List ℕ)
seen_parts s =
    (codes "{\"image\":" ++ quoted (image_name s.image))
    ∷ (codes ",\"installed\":" ++ decimal s.installed)
    ∷ (codes ",\"name\":" ++ quoted s.name)
    ∷ (codes ",\"online\":" ++ decimal s.online)
    ∷ (125 ∷ []) ∷ []

pub seen_put : (old : List ℕ) (s : SeenBy) → put_all old (seen_parts s) ≡ old ++ compact_text (seen_value s)
unfolding escape_byte
seen_put old s = one_behind_other old (seen_parts s)

abbrev pub device_parts : DeviceRow → List (List ℕ)
device_parts r =
    (codes "{\"UNIT\":" ++ compact_text (text_value r.device_type))
    ∷ (codes ",\"address\":" ++ quoted (hex2 r.unit_address))
    ∷ (codes ",\"count\":" ++ decimal r.count)
    ∷ (codes ",\"first\":" ++ quoted (hex4 r.first))
    ∷ codes ",\"images\":" ∷ compact_text (list_of seen_value r.images)
    ∷ (codes ",\"last\":" ++ quoted (hex4 (r.first + r.count - 1)))
    ∷ codes ",\"paths\":" ∷ compact_text (list_of members.path_value r.paths)
    ∷ (codes ",\"set\":" ++ decimal r.set)
    ∷ codes ",\"type\":\"devices\",\"units\":" ∷ compact_text (list_of number_value r.units)
    ∷ (125 ∷ []) ∷ []

pub device_put : (old : List ℕ) (r : DeviceRow) → put_all old (device_parts r) ≡ old ++ compact_text (device_value r)
unfolding escape_byte
device_put old r = one_behind_other old (device_parts r)

-- ---- an image

abbrev pub image_parts : ImageRow → List (List ℕ)
image_parts r =
    (codes "{\"devices\":" ++ decimal r.devices)
    ∷ (codes ",\"image\":" ++ quoted (image_name r.image))
    ∷ (codes ",\"name\":" ++ quoted r.name)
    ∷ (codes ",\"nopath\":" ++ decimal r.no_path)
    ∷ codes ",\"numbers\":" ∷ compact_text (list_of set_value r.numbers)
    ∷ (codes ",\"onepath\":" ++ decimal r.one_path)
    ∷ (codes ",\"online\":" ++ decimal r.online)
    ∷ (codes ",\"paths\":" ++ decimal r.paths)
    ∷ codes ",\"type\":\"image\"}" ∷ []

pub image_put : (old : List ℕ) (r : ImageRow) → put_all old (image_parts r) ≡ old ++ compact_text (image_value r)
unfolding escape_byte
image_put old r = one_behind_other old (image_parts r)
