-- A configuration: a finite set of records, at most one of each key.
use Rattle.std.specs.Prelude.{◌≡◌, List, [], ◌∷◌, map, Option, None, Some}
use Rattle.std.specs.List.{filter_map}
use Rattle.std.specs.FinMap.{FinMap, get, entries, values, from_entries, find}
use Rattle.iocm_types.specs.declared.key.Key.{Key}
use Rattle.iocm_types.specs.Key.{key_cmp}
use Rattle.iocm_model.specs.Machine.Record.{Rec, key_of, ImageRecord, DeviceRecord, image, device}

abbrev pub Configuration : Type 0
Configuration = FinMap key_cmp Rec

-- the record of a key, if there is one
abbrev pub Lookup : Type 0
Lookup = Key → Option Rec

abbrev pub lookup_of : Configuration → Lookup
lookup_of c key = get c key

-- each record under its key
abbrev pub with_keys : List Rec → List (Key × Rec)
with_keys records = map (λ r. (key_of r, r)) records

-- the configuration of these records; of one key the first counts
abbrev pub configuration_of : List Rec → Configuration
configuration_of records = from_entries (with_keys records)

-- no key stands twice
abbrev pub HasNoKeyTwice : List Rec → Type 0
HasNoKeyTwice [] = Unit {0}
HasNoKeyTwice (r ∷ rs) = (find key_cmp (key_of r) (with_keys rs) ≡ None) × HasNoKeyTwice rs

-- the records in the order of their keys
abbrev pub records_of : Configuration → List Rec
records_of c = values c

-- the image of an image record
abbrev pub as_image : Rec → Option ImageRecord
as_image (image r) = Some r
as_image _ = None

-- the images, by channel subsystem and MIF image ID
abbrev pub images_of : Configuration → List ImageRecord
images_of c = filter_map as_image (records_of c)

-- the device of a device record
abbrev pub as_device : Rec → Option DeviceRecord
as_device (device r) = Some r
as_device _ = None

-- the devices, by subchannel set and device number
abbrev pub devices_of : Configuration → List DeviceRecord
devices_of c = filter_map as_device (records_of c)

-- each record stands under its own key
abbrev pub IsKeyed : Configuration → Type 0
IsKeyed c = entries c ≡ with_keys (records_of c)
