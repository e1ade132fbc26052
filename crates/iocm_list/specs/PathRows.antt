-- The rows of channel paths.
use Rattle.std.specs.Prelude.{ℕ, Bool, not, if◌then◌else◌, List, [], ◌∷◌, ◌++◌, filter, map, length, codes}
use Rattle.std.specs.List.{filter_map}
use Rattle.iocm_types.specs.declared.css_path.CssPath.{CssPath}
use Rattle.iocm_model.specs.Machine.Record.{Rec, CarriedOperand, PathRecord}
use Rattle.iocm_model.specs.Machine.Configuration.{Configuration, lookup_of, records_of}
use Rattle.iocm_model.specs.Machine.Mask.{is_online}
use Rattle.iocm_values.specs.NameSet.{name_set}
use Rattle.iocm_filter.specs.Wanted.{Wanted}
use Rattle.iocm_sight.specs.Connected.{as_path, units_of_path, devices_on, wants_each}
use Rattle.iocm_list.specs.Texts.{carried_text}
use Rattle.iocm_list.specs.declared.path_row.PathRow.{PathRow}
use Rattle.iocm_list.specs.declared.path_row.PathTexts.{PathTexts}

-- the images that may use a path, in the order of their names; and to which of them it is online
abbrev pub users_of : PathRecord → List (List ℕ)
users_of p = name_set (p.access ++ p.candidates)

abbrev pub has_online : Configuration → PathRecord → List ℕ → Bool
has_online c p name = is_online (lookup_of c) p.css name p.number

-- what its statement carries along
abbrev pub path_texts : List CarriedOperand → PathTexts
path_texts carried = record {
  channel_type = carried_text (codes "TYPE") carried;
  pchid = carried_text (codes "PCHID") carried;
  vchid = carried_text (codes "VCHID") carried;
  aid = carried_text (codes "AID") carried;
  port = carried_text (codes "PORT") carried;
  switch = carried_text (codes "SWITCH") carried;
}

-- the row of a path that these control units have, and so many devices are on
abbrev pub row_with : Configuration → PathRecord → List ℕ → ℕ → PathRow
row_with c p units devices = record {
  css = p.css;
  number = p.number;
  kind = p.kind;
  texts = path_texts p.carried;
  devices = devices;
  online = filter (has_online c p) (users_of p);
  offline = filter (λ name. not (has_online c p name)) (users_of p);
  units = units;
}

-- the row of a path: a device on several of its control units counts once
abbrev pub path_row : Configuration → PathRecord → PathRow
path_row c p = let units = units_of_path c p.css p.number in row_with c p units (length (devices_on c units))

-- a path is connected with what is asked for
abbrev pub own_path : PathRecord → CssPath
own_path p = record { css = p.css; path = p.number }

abbrev pub is_path_wanted : Wanted → Configuration → PathRecord → Bool
is_path_wanted w c p = let units = units_of_path c p.css p.number in
    wants_each w c (own_path p ∷ []) units (devices_on c units)

-- its row, if it is
abbrev pub rows_of : Wanted → Configuration → PathRecord → List PathRow
rows_of w c p = if is_path_wanted w c p then path_row c p ∷ [] else []

-- the rows of those among records that are; and of all
abbrev pub rows_among : Wanted → Configuration → List Rec → List PathRow
rows_among w c rs = map (path_row c) (filter (is_path_wanted w c) (filter_map as_path rs))

abbrev pub path_rows : Wanted → Configuration → List PathRow
path_rows w c = rows_among w c (records_of c)
