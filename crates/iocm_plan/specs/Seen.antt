-- An image and a device of a configuration, what the image sees of the device, and which of its paths are online.
-- Principles of Operation, path-management-control word.
use Rattle.std.specs.Prelude.{ℕ, Bool, false, nat_eq, ◌&&◌, count_ones, Option, None, Some, List, []}
use Rattle.std.specs.List.{list_any}
use Rattle.std.specs.Option.{option_and_then, option_map}
use Rattle.iocm_types.specs.declared.image.Image.{Image}
use Rattle.iocm_types.specs.declared.key.Key.TheVariants as key
use Rattle.iocm_types.specs.declared.view.View.{View}
use Rattle.iocm_model.specs.Machine.Configuration.{Lookup, as_image}
use Rattle.iocm_model.specs.Machine.Mask.{is_online}
use Rattle.iocm_model.specs.Machine.Record.{ImageRecord, DeviceRecord}
use Rattle.iocm_model.specs.Machine.View.{device_record, view_if_seen}

-- an image and a device that a configuration has
pub record Side : Type 0 where
  pub records : Lookup
  pub image : ImageRecord
  pub device : DeviceRecord

-- the image at a place and the device of a number in a set, if both are there
abbrev pub side_with : Lookup → DeviceRecord → ImageRecord → Side
side_with c d i = record { records = c; image = i; device = d }

abbrev pub image_record : Lookup → Image → Option ImageRecord
image_record c i = option_and_then as_image (c (key.Image i.css i.mif))

abbrev pub side : Lookup → Image → ℕ → ℕ → Option Side
side c i set number =
    option_and_then (λ d. option_map (side_with c d) (image_record c i)) (device_record c set number)

-- what the image sees of the device
abbrev pub view_in : Side → Option View
view_in s = view_if_seen s.records s.image.css s.image.name s.device

abbrev pub seen : Option Side → Option View
seen s = option_and_then view_in s

-- how many of the paths in a view are online to the image; none where there is no view
abbrev pub on : Option View → ℕ
on None = 0
on (Some v) = count_ones v.pam

-- the paths in a view
abbrev pub paths_of : Option View → List ℕ
paths_of None = []
paths_of (Some v) = v.paths

-- a path is in the view, and online to the image
abbrev pub is_on : Option Side → ℕ → Bool
is_on None p = false
is_on (Some s) p =
    list_any (nat_eq p) (paths_of (view_in s)) && is_online s.records s.image.css s.image.name p
