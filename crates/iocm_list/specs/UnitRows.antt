-- The rows of control units.
use Rattle.std.specs.Prelude.{ℕ, Bool, if◌then◌else◌, List, [], ◌∷◌, filter, map, length, codes}
use Rattle.std.specs.List.{filter_map}
use Rattle.iocm_model.specs.Machine.Record.{Rec, UnitRecord}
use Rattle.iocm_model.specs.Machine.Configuration.{Configuration, records_of}
use Rattle.iocm_filter.specs.Wanted.{Wanted}
use Rattle.iocm_sight.specs.Connected.{as_unit, devices_on, wants_each}
use Rattle.iocm_sight.specs.Linked.{linked_paths}
use Rattle.iocm_list.specs.Joined.{joined_ranges}
use Rattle.iocm_list.specs.Texts.{carried_text}
use Rattle.iocm_sight.specs.declared.devices.DeviceKey.{DeviceKey}
use Rattle.iocm_list.specs.declared.unit_row.UnitRow.{UnitRow}

-- the row of a control unit that these devices name
abbrev pub row_with : UnitRecord → List DeviceKey → UnitRow
row_with u devices = record {
  number = u.number;
  unit_type = carried_text (codes "UNIT") u.carried;
  cuadd = u.cuadd;
  addresses = u.ranges;
  paths = linked_paths u;
  devices = length devices;
  ranges = joined_ranges devices;
}

abbrev pub unit_row : Configuration → UnitRecord → UnitRow
unit_row c u = row_with u (devices_on c (u.number ∷ []))

-- a control unit is connected with what is asked for
abbrev pub is_unit_wanted : Wanted → Configuration → UnitRecord → Bool
is_unit_wanted w c u = let own = u.number ∷ [] in wants_each w c u.paths own (devices_on c own)

-- its row, if it is
abbrev pub rows_of : Wanted → Configuration → UnitRecord → List UnitRow
rows_of w c u = if is_unit_wanted w c u then unit_row c u ∷ [] else []

-- the rows of those among records that are; and of all
abbrev pub rows_among : Wanted → Configuration → List Rec → List UnitRow
rows_among w c rs = map (unit_row c) (filter (is_unit_wanted w c) (filter_map as_unit rs))

abbrev pub unit_rows : Wanted → Configuration → List UnitRow
unit_rows w c = rows_among w c (records_of c)
