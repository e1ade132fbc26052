-- Where filters ask for nothing, or for ranges of devices alone, each device is in one row, and each image has one.
use Rattle.std.specs.Prelude.{◌≡◌, ◌+◌, ℕ, List, map, filter}
use Rattle.std.specs.List.{flat_map, range_with_len}
use Rattle.iocm_model.specs.Machine.Configuration.{Configuration, devices_of, images_of}
use Rattle.iocm_filter.specs.declared.meant.DeviceRange.{DeviceRange}
use Rattle.iocm_filter.specs.Wanted.{Wanted, nothing}
use Rattle.iocm_sight.specs.Connected.{own_key}
use Rattle.iocm_list.specs.DeviceRows.{DeviceRow, device_rows}
use Rattle.iocm_list.specs.ImageRows.{image_row, image_rows}
use Rattle.iocm_sight.specs.WantedRows.{wants_number}
use Rattle.iocm_sight.specs.declared.devices.DeviceKey.{DeviceKey}

-- the devices of a row, written out
abbrev pub devices_in : DeviceRow → List DeviceKey
devices_in r = map (λ k. record { set = r.set; number = r.first + k }) (range_with_len 0 r.count)

abbrev pub in_ranges : List DeviceRange → Wanted
in_ranges ranges = record nothing { devices = ranges }

-- rows written out are the devices in the ranges, or all, each once and in the order of keys
abbrev pub RowsAreTheDevices : Type 0
RowsAreTheDevices = (c : Configuration) (ranges : List DeviceRange)
    → flat_map devices_in (device_rows (in_ranges ranges) c)
    ≡ map own_key (filter (wants_number (in_ranges ranges)) (devices_of c))

abbrev pub AllImagesAreListed : Type 0
AllImagesAreListed = (c : Configuration) (online : List ℕ)
    → image_rows (record nothing { online = online }) c ≡ map (image_row c) (images_of c)
