-- What is connected with what: an image reaches paths, a control unit has paths, a device names control
-- units. Of each kind for which filters ask something, a row is left if it is connected with one of what
-- they ask for.
use Rattle.std.specs.Prelude.{ℕ, Bool, not, ◌==◌, ◌&&◌, ◌||◌, Option, None, Some, List, filter, map}
use Rattle.std.specs.List.{filter_map, list_any}
use Rattle.iocm_types.specs.declared.css_path.CssPath.{CssPath}
use Rattle.iocm_types.specs.declared.key.Key.{Key}
use Rattle.iocm_types.specs.declared.key.Key.TheVariants as key
use Rattle.iocm_model.specs.Machine.Record.{Rec, ImageRecord, PathRecord, UnitRecord, DeviceRecord, path, unit}
use Rattle.iocm_model.specs.Machine.Configuration.{Configuration, lookup_of, records_of, as_image, devices_of}
use Rattle.iocm_model.specs.Machine.Sight.{reaches}
use Rattle.iocm_filter.specs.Wanted.{Wanted, asks, one_if_asked, is_at, is_named, is_within, have_common, means_path}
use Rattle.iocm_filter.specs.declared.meant.ImageWord.{ImageWord}
use Rattle.iocm_filter.specs.declared.meant.DeviceRange.{DeviceRange}
use Rattle.iocm_filter.specs.declared.meant.PathWord.{PathWord}
use Rattle.iocm_sight.specs.declared.asked.AskedImage.{AskedImage}
use Rattle.iocm_sight.specs.declared.devices.DeviceKey.{DeviceKey}

-- ---- the paths, and the control units, in the order of keys

abbrev pub as_path : Rec → Option PathRecord
as_path (path p) = Some p
as_path _ = None

abbrev pub paths_of : Configuration → List PathRecord
paths_of c = filter_map as_path (records_of c)

abbrev pub as_unit : Rec → Option UnitRecord
as_unit (unit u) = Some u
as_unit _ = None

abbrev pub units_of : Configuration → List UnitRecord
units_of c = filter_map as_unit (records_of c)

-- ---- from a path to its control units, and from control units to their devices

-- a control unit has a path
abbrev pub has_path : ℕ → ℕ → UnitRecord → Bool
has_path css number u = list_any (λ (p : CssPath). p.css == css && number == p.path) u.paths

-- the numbers of the control units that have a path
abbrev pub units_of_path : Configuration → ℕ → ℕ → List ℕ
units_of_path c css number = map (λ (u : UnitRecord). u.number) (filter (has_path css number) (units_of c))

-- the devices that name one of these control units
abbrev pub own_key : DeviceRecord → DeviceKey
own_key d = record { set = d.set; number = d.number }

abbrev pub is_on : List ℕ → DeviceRecord → Bool
is_on units d = have_common units d.units

abbrev pub devices_on : Configuration → List ℕ → List DeviceKey
devices_on c units = map own_key (filter (is_on units) (devices_of c))

-- the number of a control unit, and the device, of which a key is that
abbrev pub unit_number : Key → Option ℕ
unit_number (key.Unit number) = Some number
unit_number _ = None

abbrev pub device_key : Key → Option DeviceKey
device_key (key.Device set number) = Some (record { set = set; number = number })
device_key _ = None

-- ---- what is asked for

-- a word asks for an image, by its place or its name
abbrev pub means_image : ImageRecord → ImageWord → Bool
means_image i word = is_at (record { css = i.css; mif = i.mif }) word || is_named i.name word

-- the images that are asked for
abbrev pub named_in : ImageRecord → AskedImage
named_in i = record { css = i.css; name = i.name }

abbrev pub asked_among : Wanted → List Rec → List AskedImage
asked_among w rs = map named_in (filter (λ i. list_any (means_image i) w.images) (filter_map as_image rs))

abbrev pub asked_images : Wanted → Configuration → List AskedImage
asked_images w c = asked_among w (records_of c)

-- no image is asked for, or one that is reaches one of these paths
abbrev pub is_reached_by : Configuration → CssPath → AskedImage → Bool
is_reached_by c p i = i.css == p.css && reaches (lookup_of c) p.css i.name p.path

abbrev pub is_any_reached : Configuration → List CssPath → List AskedImage → Bool
is_any_reached c paths images = list_any (λ p. list_any (is_reached_by c p) images) paths

abbrev pub wants_reached : Wanted → Configuration → List CssPath → Bool
wants_reached w c paths = not (asks w.images) || is_any_reached c paths (asked_images w c)

-- no path is asked for, or one of these is
abbrev pub means : PathWord → CssPath → Bool
means word p = means_path word p.css p.path

abbrev pub wants_paths : Wanted → List CssPath → Bool
wants_paths w paths = one_if_asked (λ word. list_any (means word) paths) w.paths

-- no control unit is asked for, or one of these is
abbrev pub wants_units : Wanted → List ℕ → Bool
wants_units w units = not (asks w.units) || have_common w.units units

-- no device is asked for, or one of these is
abbrev pub is_in : DeviceRange → DeviceKey → Bool
is_in range d = is_within d.set d.number range

abbrev pub wants_devices : Wanted → List DeviceKey → Bool
wants_devices w devices = one_if_asked (λ range. list_any (is_in range) devices) w.devices

-- these paths, control units and devices, which are connected with each other, are wanted
abbrev pub wants_each : Wanted → Configuration → List CssPath → List ℕ → List DeviceKey → Bool
wants_each w c paths units devices =
    wants_reached w c paths && wants_paths w paths && wants_units w units && wants_devices w devices
