-- An image, or a number cell, of a configuration with a table in which paths are looked up.
use Rattle.std.specs.Prelude.{◌≡◌, ℕ, List, Option, Some}
use Rattle.iocm_types.specs.declared.image.Image.{Image}
use Rattle.iocm_types.specs.declared.place.NumberCell.{NumberCell}
use Rattle.iocm_model.specs.Machine.Record.{DeviceRecord}
use Rattle.iocm_model.specs.Machine.Configuration.{Configuration, lookup_of}
use Rattle.iocm_derive.specs.Derived.{name_at, paths_of}
use Rattle.iocm_reach.specs.declared.image_path.ImagePath.{ImagePath}
use Rattle.iocm_reach.specs.Tabled.{IsReachOf}

-- the table is that of the configuration, and the image has this name in it
pub record IsReachedImage (m : Configuration) (table : List ImagePath) (im : Image) (name : List ℕ) : Type 0 where
  pub reach : IsReachOf m table
  pub called : name_at (lookup_of m) im ≡ Some name

-- the table is that of the configuration, and these are the first eight paths of the device there
pub record IsReachedCell (m : Configuration) (table : List ImagePath) (cell : NumberCell) (device : Option DeviceRecord)
    (paths : List ℕ) : Type 0 where
  pub reach : IsReachOf m table
  pub first : paths ≡ paths_of (lookup_of m) cell.css device
