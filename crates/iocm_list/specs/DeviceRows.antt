-- The rows of `list devices`: runs of devices, each with what images see of it.
-- IOCP User's Guide, IODEVICE statement; that devices are joined as they are written is own.
use Rattle.std.specs.Prelude.{ℕ, ◌&&◌, ◌||◌, not, Bool, codes, Option, List, map, filter}
use Rattle.iocm_types.specs.declared.css_path.CssPath.{CssPath}
use Rattle.iocm_model.specs.Machine.Configuration.{Configuration, lookup_of, devices_of}
use Rattle.iocm_model.specs.Machine.Numbering.{is_empty}
use Rattle.iocm_filter.specs.Wanted.{Wanted, asks}
use Rattle.iocm_deck_writer.specs.Device.{Run, runs}
use Rattle.iocm_sight.specs.Connected.{wants_paths, wants_units}
use Rattle.iocm_sight.specs.Seen.{images_by, paths_by}
use Rattle.iocm_list.specs.Texts.{carried_text}
use Rattle.iocm_sight.specs.WantedRows.{wants_number}
use Rattle.iocm_sight.specs.declared.seen_by.SeenBy.{SeenBy}

-- a run of devices: the first, and how many there are; the device type (UNIT) and the control units; the unit address
-- of the first; the paths, and the images that see it
pub record DeviceRow : Type 0 where
  pub set : ℕ
  pub first : ℕ
  pub count : ℕ
  pub device_type : Option (List ℕ)
  pub units : List ℕ
  pub unit_address : ℕ
  pub paths : List CssPath
  pub images : List SeenBy

-- the row of a run
abbrev pub device_row : Wanted → Configuration → Run → DeviceRow
device_row w c r = record {
  set = r.first.set;
  first = r.first.number;
  count = r.count;
  device_type = carried_text (codes "UNIT") r.first.carried;
  units = r.first.units;
  unit_address = r.first.unit_address;
  paths = paths_by (lookup_of c) r.first.units;
  images = images_by w c r.first;
}

-- a row is listed if its control units and its paths are asked for, and, if images are, one of these sees it
abbrev pub is_listed : Wanted → DeviceRow → Bool
is_listed w r = wants_units w r.units && wants_paths w r.paths
    && (not (asks w.images || asks w.online) || not (is_empty r.images))

-- the rows of the devices in the ranges that are asked for, joined as they are written
abbrev pub device_rows : Wanted → Configuration → List DeviceRow
device_rows w c = filter (is_listed w) (map (device_row w c) (runs (filter (wants_number w) (devices_of c))))
