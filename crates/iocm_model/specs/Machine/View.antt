-- What images see at their subchannels.
-- Principles of Operation, subchannels and the path-management-control word.
use Rattle.std.specs.Prelude.{◌≡◌, ℕ, T, ◌==◌, List, filter, Option, None, Some, if◌then◌else◌}
use Rattle.std.specs.List.{flat_map, filter_map}
use Rattle.std.specs.Option.{option_map, option_and_then}
use Rattle.std.specs.FinMap.{entries, find, is_sorted}
use Rattle.iocm_types.specs.declared.view.View.{View}
use Rattle.iocm_types.specs.declared.sub_id.SubId.{SubId}
use Rattle.iocm_types.specs.declared.place.NumberCell.{NumberCell}
use Rattle.iocm_types.specs.SubId.{sub_id_cmp}
use Rattle.iocm_types.specs.declared.key.Key.TheVariants.{Image, Device}
use Rattle.iocm_model.specs.Machine.Record.{ImageRecord, DeviceRecord}
use Rattle.iocm_model.specs.Machine.Configuration.{Configuration, Lookup, lookup_of, images_of, as_image, as_device}
use Rattle.iocm_model.specs.Machine.PathList.{view_paths}
use Rattle.iocm_model.specs.Machine.Sight.{sees}
use Rattle.iocm_model.specs.Machine.Mask.{installed, available}
use Rattle.iocm_model.specs.Machine.Numbering.{Numbering, device_at, cells_of}

-- what the image of this name sees of a device: the device, its first eight paths and their masks
abbrev pub view_of : Lookup → ℕ → List ℕ → DeviceRecord → View
view_of c css name d = let paths = view_paths c css d.units in
    record { device = d.number; paths = paths; pim = installed c css name paths; pam = available c css name paths }

-- the view of a device, if the image sees it
abbrev pub view_if_seen : Lookup → ℕ → List ℕ → DeviceRecord → Option View
view_if_seen c css name d = if sees c css name d then Some (view_of c css name d) else None

-- the device record of a device number in a set, if there is one
abbrev pub device_record : Lookup → ℕ → ℕ → Option DeviceRecord
device_record c set number = option_and_then as_device (c (Device set number))

-- what an image sees of the device of a set
abbrev pub image_view : Lookup → ImageRecord → ℕ → ℕ → Option View
image_view c i set number = option_and_then (view_if_seen c i.css i.name) (device_record c set number)

-- the view at a subchannel: its image and the device of its number are there, and the image sees
-- the device
abbrev pub view_at : Configuration → Numbering → SubId → Option View
view_at c n s = let at = lookup_of c in
    option_and_then (λ (i : ImageRecord). option_and_then (image_view at i s.set)
    (device_at n (record { css = s.image.css; set = s.set; number = s.number })))
    (option_and_then as_image (at (Image s.image.css s.image.mif)))

-- the subchannel of an image at a number cell, with its view, if there is one
abbrev pub row_at : Lookup → ImageRecord → NumberCell × ℕ → Option (SubId × View)
row_at c i cell = option_map
    (λ (v : View).
    (record { image = record { css = i.css; mif = i.mif }; set = cell.0.set; number = cell.0.number }, v))
    (image_view c i cell.0.set cell.1)

-- all subchannels that have a view, with their views, in the order of subchannels: image by image,
-- and for each the number cells of its channel subsystem by set and number
abbrev pub views : Configuration → Numbering → List (SubId × View)
views c n = flat_map (λ (i : ImageRecord). filter_map (row_at (lookup_of c) i)
    (filter (λ (e : NumberCell × ℕ). e.0.css == i.css) (entries (cells_of n)))) (images_of c)

-- rows of subchannels and views: the subchannels rise, and what is found at each is its view
pub record IsListOfViews (c : Configuration) (n : Numbering) (rows : List (SubId × View)) : Type 0 where
  pub rising : T (is_sorted sub_id_cmp rows)
  pub exact : (s : SubId) → find sub_id_cmp s rows ≡ view_at c n s
