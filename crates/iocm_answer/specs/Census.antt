-- How much a configuration has, and how it is said.
use Rattle.std.specs.Prelude.{ℕ, Bool, true, false, ◌==◌, List, ◌++◌, codes, count_by, if◌then◌else◌}
use Rattle.std.specs.FinMap.{entries, len}
use Rattle.std.specs.Fmt.{decimal}
use Rattle.iocm_types.specs.declared.key.Key.{Key}
use Rattle.iocm_types.specs.declared.key.Key.TheVariants as key
use Rattle.iocm_model.specs.Machine.Configuration.{Configuration}
use Rattle.iocm_model.specs.Machine.Record.{Rec}
use Rattle.iocm_answer.specs.declared.census.Census.{Census}

-- a record with its key is of this kind
abbrev pub is_image : Key × Rec → Bool
is_image (key.Image css mif, r) = true
is_image _ = false

abbrev pub is_path : Key × Rec → Bool
is_path (key.Path css number, r) = true
is_path _ = false

abbrev pub is_unit : Key × Rec → Bool
is_unit (key.Unit number, r) = true
is_unit _ = false

abbrev pub is_device : Key × Rec → Bool
is_device (key.Device set number, r) = true
is_device _ = false

-- all records, and those of four kinds
abbrev pub census_of : Configuration → Census
census_of c = record {
  records = len c;
  images = count_by is_image (entries c);
  paths = count_by is_path (entries c);
  units = count_by is_unit (entries c);
  devices = count_by is_device (entries c);
}

-- so many of something: 1 image, or 3 images
abbrev pub several : ℕ → List ℕ → List ℕ
several n what = if n == 1 then codes "1 " ++ what else decimal n ++ (codes " " ++ (what ++ codes "s"))

-- 3 images, 4 paths, 1 control unit, 256 devices
abbrev pub census_text : Census → List ℕ
census_text c =
    several c.images (codes "image") ++ (codes ", " ++ (several c.paths (codes "path") ++ (codes ", "
    ++ (several c.units (codes "control unit") ++ (codes ", " ++ several c.devices (codes "device"))))))
