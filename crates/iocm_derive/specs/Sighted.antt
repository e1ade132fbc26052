-- An image of a configuration, with tables of the paths that it reaches and of those that are
-- online to it, rows of its records, and what it sees by some control units.
use Rattle.std.specs.Prelude.{◌≡◌, ℕ, List}
use Rattle.std.specs.List.{list_any}
use Rattle.iocm_derive.specs.declared.path_tables.PathTables.{PathTables}
use Rattle.iocm_derive.specs.PathTables.{IsTableOf}
use Rattle.iocm_derive.specs.declared.units_view.UnitsView.{UnitsView}
use Rattle.iocm_model.specs.Machine.Record.{ImageRecord}
use Rattle.iocm_model.specs.Machine.Configuration.{Configuration, Lookup, lookup_of}
use Rattle.iocm_model.specs.Machine.PathList.{path_list, view_paths}
use Rattle.iocm_model.specs.Machine.Sight.{reaches}
use Rattle.iocm_model.specs.Machine.Mask.{installed, available, is_online}

-- the configuration, and the image in it
pub record Sighted : Type 0 where
  pub records : Configuration
  pub image : ImageRecord

-- whether the image reaches a path of these units, their first eight paths, and the masks of these
pub record IsSeenBy (c : Lookup) (css : ℕ) (name : List ℕ) (v : UnitsView) : Type 0 where
  pub reached : v.is_reached ≡ list_any (reaches c css name) (path_list c css v.units.now)
  pub paths : v.paths ≡ view_paths c css v.units.now
  pub installed_mask : v.pim ≡ installed c css name v.paths
  pub available_mask : v.pam ≡ available c css name v.paths

-- the tables of the paths that the image of this name reaches, and of those that are online to it;
-- the devices and the control units of the configuration; and what the image sees by some units
pub record IsSighted (m : Configuration) (css : ℕ) (name : List ℕ) (tables : PathTables)
    (devices units : Configuration) (last : UnitsView) : Type 0 where
  pub reached_paths : IsTableOf (reaches (lookup_of m) css name) tables.reached
  pub online_paths : IsTableOf (is_online (lookup_of m) css name) tables.online
  pub same_devices : devices ≡ m
  pub same_units : units ≡ m
  pub seen : IsSeenBy (lookup_of m) css name last
