-- The lines of channel paths. Operands are named by their keywords.
use Rattle.std.specs.Prelude.{ℕ, List, [], ◌∷◌, codes}
use Rattle.std.specs.List.{flat_map}
use Rattle.iocm_types.specs.Print.{hex2}
use Rattle.iocm_model.specs.Machine.Configuration.{Configuration}
use Rattle.iocm_filter.specs.Wanted.{Wanted}
use Rattle.iocm_list.specs.PathRows.{path_rows}
use Rattle.iocm_list.specs.declared.path_row.PathRow.{PathRow}
use Rattle.serde_json.specs.Data.{Data, string}
use Rattle.iocm_lines.specs.Lines.{line}
use Rattle.iocm_lines.specs.Members.{object_of, count}
use Rattle.iocm_record_lines.specs.Lists.{list_of}
use Rattle.iocm_record_lines.specs.Records.{names_value, number_value, use_text}
use Rattle.iocm_list_lines.specs.Members.{text_value}

-- what is listed of a channel path
abbrev pub path_members : PathRow → List (List ℕ × Data)
path_members r =
    (codes "AID", text_value r.texts.aid)
    ∷ (codes "PCHID", text_value r.texts.pchid)
    ∷ (codes "PORT", text_value r.texts.port)
    ∷ (codes "SWITCH", text_value r.texts.switch)
    ∷ (codes "TYPE", text_value r.texts.channel_type)
    ∷ (codes "VCHID", text_value r.texts.vchid)
    ∷ (codes "css", count r.css)
    ∷ (codes "devices", count r.devices)
    ∷ (codes "offline", names_value r.offline)
    ∷ (codes "online", names_value r.online)
    ∷ (codes "path", string (hex2 r.number))
    ∷ (codes "type", string (codes "path"))
    ∷ (codes "units", list_of number_value r.units)
    ∷ (codes "use", string (use_text r.kind)) ∷ []

abbrev pub path_value : PathRow → Data
path_value r = object_of (path_members r)

unfoldable pub path_line : PathRow → List ℕ
path_line r = line (path_value r)

-- a line for each of the channel paths that filters leave
abbrev pub path_lines : Wanted → Configuration → List ℕ
path_lines w c = flat_map path_line (path_rows w c)
