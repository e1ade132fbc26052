-- What is asked of a configuration by number: the path list of a device, and whether an image sees
-- it.
use Rattle.std.specs.Prelude.{ℕ, Bool, false, List, [], Option, None, Some}
use Rattle.std.specs.Option.{option_and_then, option_map}
use Rattle.iocm_types.specs.declared.css_path.CssPath.{CssPath}
use Rattle.iocm_types.specs.declared.image.Image.{Image}
use Rattle.iocm_types.specs.declared.key.Key.TheVariants as key
use Rattle.iocm_model.specs.Machine.Record.{Rec, DeviceRecord, ImageRecord, image, unit}
use Rattle.iocm_model.specs.Machine.Configuration.{Lookup, as_image}
use Rattle.iocm_model.specs.Machine.PathList.{view_paths}
use Rattle.iocm_model.specs.Machine.Sight as sight
use Rattle.iocm_model.specs.Machine.View.{device_record}

-- the paths of a unit's record in all channel subsystems, in the order of PATH
abbrev pub all_paths : Option Rec → List CssPath
all_paths (Some (unit r)) = r.paths
all_paths _ = []

-- the channel subsystem and the name in an image's record
abbrev pub name_in : Rec → Option (ℕ × List ℕ)
name_in (image r) = Some (r.css, r.name)
name_in _ = None

-- those of the image record of an image, if there is one
abbrev pub image_name : Lookup → Image → Option (ℕ × List ℕ)
image_name c i = option_and_then name_in (c (key.Image i.css i.mif))

-- the name in the image record of an image, if there is one
abbrev pub name_at : Lookup → Image → Option (List ℕ)
name_at c i = option_map (λ (r : ImageRecord). r.name) (option_and_then as_image (c (key.Image i.css i.mif)))

-- the first eight paths of a device that is there
abbrev pub paths_of : Lookup → ℕ → Option DeviceRecord → List ℕ
paths_of c css None = []
paths_of c css (Some d) = view_paths c css d.units

-- the first eight paths by which a channel subsystem reaches the device of a number in a set
abbrev pub paths_at : Lookup → ℕ → ℕ → ℕ → List ℕ
paths_at c css set number = paths_of c css (device_record c set number)

-- whether an image that is there sees a device that is there
abbrev pub is_seen : Lookup → Option (ℕ × List ℕ) → Option DeviceRecord → Bool
is_seen c (Some i) (Some d) = sight.sees c i.0 i.1 d
is_seen c _ _ = false

-- whether the image sees the device of a number in a set
abbrev pub sees : Lookup → Image → ℕ → ℕ → Bool
sees c i set number = is_seen c (image_name c i) (device_record c set number)
