-- Lines of lists are read again.
use Rattle.std.specs.Prelude.{◌<◌, ◌^◌}
use Rattle.std.specs.List.{AllByRecursion}
use Rattle.iocm_types.specs.declared.css_path.CssPath.{CssPath}
use Rattle.iocm_types.specs.declared.unit_range.UnitRange.{UnitRange}
use Rattle.iocm_words.specs.declared.paths.LinkedPath.{LinkedPath}
use Rattle.iocm_words.specs.declared.ranges.SetNumbers.{SetNumbers}
use Rattle.iocm_list.specs.DeviceRows.{DeviceRow}
use Rattle.iocm_list.specs.ImageRows.{ImageRow}
use Rattle.iocm_list.specs.declared.path_row.PathRow.{PathRow}
use Rattle.iocm_sight.specs.declared.seen_by.SeenBy.{SeenBy}
use Rattle.iocm_list.specs.declared.unit_row.UnitRow.{UnitRow}
use Rattle.iocm_lines.specs.Again.{IsReadBack}
use Rattle.iocm_list_lines.specs.Devices.{device_value}
use Rattle.iocm_list_lines.specs.Images.{image_value}
use Rattle.iocm_list_lines.specs.Paths.{path_value}
use Rattle.iocm_list_lines.specs.Units.{unit_value}

-- the numbers of a row that are told as numbers have 64 bits
pub record HasPathNumbers (r : PathRow) : Type 0 where
  pub css : r.css < 2 ^ 64
  pub devices : r.devices < 2 ^ 64

pub record HasUnitNumbers (r : UnitRow) : Type 0 where
  pub devices : r.devices < 2 ^ 64
  pub paths : AllByRecursion (λ (p : LinkedPath). p.css < 2 ^ 64) r.paths
  pub addresses : AllByRecursion (λ (range : UnitRange). range.count < 2 ^ 64) r.addresses

abbrev pub HasSeenNumbers : SeenBy → Type 0
HasSeenNumbers s = (s.installed < 2 ^ 64) × (s.online < 2 ^ 64)

pub record HasDeviceNumbers (r : DeviceRow) : Type 0 where
  pub set : r.set < 2 ^ 64
  pub count : r.count < 2 ^ 64
  pub paths : AllByRecursion (λ (p : CssPath). p.css < 2 ^ 64) r.paths
  pub images : AllByRecursion HasSeenNumbers r.images

abbrev pub HasSetNumbers : SetNumbers → Type 0
HasSetNumbers s = (s.limit < 2 ^ 64) × (s.set < 2 ^ 64) × (s.used < 2 ^ 64)

pub record HasImageNumbers (r : ImageRow) : Type 0 where
  pub paths : r.paths < 2 ^ 64
  pub online : r.online < 2 ^ 64
  pub devices : r.devices < 2 ^ 64
  pub no_path : r.no_path < 2 ^ 64
  pub one_path : r.one_path < 2 ^ 64
  pub numbers : AllByRecursion HasSetNumbers r.numbers

-- what is read back: the line of a channel path, of a control unit, of a run of devices, and of an image
pub record LinesAreReadBack : Type 0 where
  pub path : (r : PathRow) → HasPathNumbers r → IsReadBack (path_value r)
  pub unit : (r : UnitRow) → HasUnitNumbers r → IsReadBack (unit_value r)
  pub devices : (r : DeviceRow) → HasDeviceNumbers r → IsReadBack (device_value r)
  pub image : (r : ImageRow) → HasImageNumbers r → IsReadBack (image_value r)
