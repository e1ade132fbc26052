-- The cells of rows as words, and the tables of them.
-- Bytes by their codes: 47 is a slash.
use Rattle.std.specs.Prelude.{ℕ, Option, None, Some, List, [], ◌∷◌, ◌++◌, map, codes}
use Rattle.std.specs.Fmt.{decimal}
use Rattle.std.specs.Option.{option_map_or}
use Rattle.iocm_types.specs.declared.path_kind.PathKind.{PathKind}
use Rattle.iocm_types.specs.declared.path_kind.PathKind.TheVariants as kind
use Rattle.iocm_types.specs.Print.{hex2, hex4}
use Rattle.iocm_model.specs.Machine.Configuration.{Configuration}
use Rattle.iocm_filter.specs.Wanted.{Wanted}
use Rattle.iocm_words.specs.declared.table.Side.{Side}
use Rattle.iocm_words.specs.declared.table.Side.TheVariants.{Left, Right}
use Rattle.iocm_words.specs.Paths.{paths_word}
use Rattle.iocm_words.specs.Ranges.{devices_word, range_word}
use Rattle.iocm_words.specs.Table.{TableColumn, table_text}
use Rattle.iocm_words.specs.Words.{carried_word, comma_word, nothing, path_word, word_of}
use Rattle.iocm_list.specs.PathRows.{path_rows}
use Rattle.iocm_list.specs.UnitRows.{unit_rows}
use Rattle.iocm_list.specs.declared.path_row.PathRow.{PathRow}
use Rattle.iocm_list.specs.declared.path_row.PathTexts.{PathTexts}
use Rattle.iocm_list.specs.declared.unit_row.UnitRow.{UnitRow}

abbrev pub column : List ℕ → Side → TableColumn
column heading side = record { heading = heading; side = side }

-- ---- channel paths

-- how images use a path
abbrev pub use_word : PathKind → List ℕ
use_word kind.Dedicated = codes "DEDICATED"
use_word kind.Shared = codes "SHARED"
use_word kind.Reconfigurable = codes "REC"

-- the port of an adapter, behind it
abbrev pub port_part : Option (List ℕ) → List ℕ
port_part None = []
port_part (Some port) = codes "/" ++ word_of port

-- an adapter, AID=08/1; else nothing
abbrev pub adapter_word : Option (List ℕ) → Option (List ℕ) → List ℕ
adapter_word None port = nothing
adapter_word (Some aid) port = codes "AID=" ++ word_of aid ++ port_part port

-- the virtual channel, VCHID=7E0; else another word
abbrev pub virtual_word : Option (List ℕ) → List ℕ → List ℕ
virtual_word None other = other
virtual_word (Some vchid) other = codes "VCHID=" ++ word_of vchid

-- the physical channel of a path, else the virtual one, else the adapter
abbrev pub channel_word : PathTexts → List ℕ
channel_word t = option_map_or word_of t.pchid (virtual_word t.vchid (adapter_word t.aid t.port))

abbrev pub path_columns : List TableColumn
path_columns =
    column (codes "CHPID") Left ∷ column (codes "TYPE") Left ∷ column (codes "PCHID") Left
    ∷ column (codes "SWITCH") Left ∷ column (codes "USE") Left ∷ column (codes "DEVICES") Right
    ∷ column (codes "ONLINE") Left ∷ column (codes "OFFLINE") Left ∷ column (codes "CU") Left ∷ []

abbrev pub path_cells : PathRow → List (List ℕ)
path_cells r =
    path_word r.css r.number ∷ carried_word r.texts.channel_type ∷ channel_word r.texts
    ∷ carried_word r.texts.switch ∷ use_word r.kind ∷ decimal r.devices
    ∷ comma_word r.online ∷ comma_word r.offline ∷ comma_word (map hex4 r.units) ∷ []

-- the table of the channel paths that filters leave
abbrev pub path_table : Wanted → Configuration → List ℕ
path_table w c = table_text path_columns (map path_cells (path_rows w c))

-- ---- control units

-- a control unit address, if there is one
abbrev pub cuadd_word : Option ℕ → List ℕ
cuadd_word cuadd = option_map_or hex2 cuadd nothing

abbrev pub unit_columns : List TableColumn
unit_columns =
    column (codes "CU") Left ∷ column (codes "UNIT") Left ∷ column (codes "CUADD") Left
    ∷ column (codes "UNITADD") Left ∷ column (codes "PATHS") Left ∷ column (codes "DEVICES") Right
    ∷ column (codes "RANGES") Left ∷ []

abbrev pub unit_cells : UnitRow → List (List ℕ)
unit_cells r =
    hex4 r.number ∷ carried_word r.unit_type ∷ cuadd_word r.cuadd
    ∷ comma_word (map range_word r.addresses) ∷ paths_word r.paths ∷ decimal r.devices
    ∷ comma_word (map devices_word r.ranges) ∷ []

-- the table of the control units that filters leave
abbrev pub unit_table : Wanted → Configuration → List ℕ
unit_table w c = table_text unit_columns (map unit_cells (unit_rows w c))
