-- With what an object of a configuration is connected. An image reaches paths and sees devices, a control unit has
-- paths, a device names control units; an object is connected with what it is, and with what it leads to by such steps
-- in one direction. The ID, RESOURCE and limits aren't connected with anything.
use Rattle.std.specs.Prelude.{ℕ, Bool, false, nat_eq, ◌==◌, ◌&&◌, ◌||◌, if◌then◌else◌, List, [], ◌∷◌, ◌++◌}
use Rattle.std.specs.Prelude.{map, filter}
use Rattle.std.specs.List.{flat_map, list_any}
use Rattle.std.specs.Option.{option_map_or}
use Rattle.std.specs.Ordering.{eq_by_cmp}
use Rattle.iocm_types.specs.Key.{key_cmp}
use Rattle.iocm_types.specs.declared.css_path.CssPath.{CssPath}
use Rattle.iocm_types.specs.declared.image.Image.{Image}
use Rattle.iocm_types.specs.declared.key.Key.{Key}
use Rattle.iocm_types.specs.declared.key.Key.TheVariants as key
use Rattle.iocm_model.specs.Machine.Configuration.{Configuration, Lookup, images_of, lookup_of}
use Rattle.iocm_model.specs.Machine.Record.{DeviceRecord, ImageRecord}
use Rattle.iocm_model.specs.Machine.Sight.{reaches}
use Rattle.iocm_model.specs.Machine.View.{device_record}
use Rattle.iocm_derive.specs.Derived.{all_paths, name_at, sees}
use Rattle.iocm_filter.specs.Wanted.{Wanted, asks}
use Rattle.iocm_filter.specs.declared.meant.PathWord.{PathWord}
use Rattle.iocm_plan.specs.Runs.{devices_asked}
use Rattle.iocm_sight.specs.Connected.{means}
use Rattle.iocm_sight.specs.Counts.{reaches_word}
use Rattle.iocm_sight.specs.WantedRows.{wants_image}
use Rattle.iocm_sight.specs.declared.devices.DeviceKey.{DeviceKey}

-- ---- steps

-- the paths that the control unit of a number has
abbrev pub paths_of : Lookup → ℕ → List CssPath
paths_of c unit = all_paths (c (key.Unit unit))

-- a path is among these
abbrev pub has_path : ℕ → ℕ → List CssPath → Bool
has_path css path paths = list_any (λ (p : CssPath). p.css == css && p.path == path) paths

-- the image of a name reaches one of these
abbrev pub reaches_any : Lookup → ℕ → List ℕ → List CssPath → Bool
reaches_any c css name paths = list_any (λ (p : CssPath). p.css == css && reaches c css name p.path) paths

-- what is so of the name of the image, or of the device, that stands under a key; of none nothing is
abbrev pub of_name_at : Lookup → ℕ → ℕ → (List ℕ → Bool) → Bool
of_name_at c css mif is_so = option_map_or is_so (name_at c (record { css = css; mif = mif })) false

abbrev pub of_device_at : Lookup → ℕ → ℕ → (DeviceRecord → Bool) → Bool
of_device_at c set number is_so = option_map_or is_so (device_record c set number) false

-- ---- images that are asked for

abbrev pub is_of_image : Lookup → ImageRecord → Key → Bool
is_of_image c i (key.Image css mif) = i.css == css && i.mif == mif
is_of_image c i (key.Path css path) = i.css == css && reaches c i.css i.name path
is_of_image c i (key.Unit unit) = reaches_any c i.css i.name (paths_of c unit)
is_of_image c i (key.Device set number) = sees c (record { css = i.css; mif = i.mif }) set number
is_of_image c i _ = false

abbrev pub is_of_images : Wanted → Configuration → Key → Bool
is_of_images w c k = list_any (λ i. is_of_image (lookup_of c) i k) (filter (wants_image w) (images_of c))

-- ---- control units that are asked for

abbrev pub is_of_unit : Lookup → Key → ℕ → Bool
is_of_unit c (key.Image css mif) unit = of_name_at c css mif (λ name. reaches_any c css name (paths_of c unit))
is_of_unit c (key.Path css path) unit = has_path css path (paths_of c unit)
is_of_unit c (key.Unit own) unit = own == unit
is_of_unit c (key.Device set number) unit = of_device_at c set number (λ d. list_any (nat_eq unit) d.units)
is_of_unit c _ unit = false

abbrev pub is_of_units : Wanted → Configuration → Key → Bool
is_of_units w c k = list_any (is_of_unit (lookup_of c) k) w.units

-- ---- paths that are asked for

-- a control unit has a path that a word means
abbrev pub has_meant : Lookup → PathWord → ℕ → Bool
has_meant c word unit = list_any (means word) (paths_of c unit)

abbrev pub is_of_path : Lookup → Key → PathWord → Bool
is_of_path c (key.Image css mif) word = of_name_at c css mif (λ name. reaches_word c css name word)
is_of_path c (key.Path css path) word = means word (record { css = css; path = path })
is_of_path c (key.Unit unit) word = has_meant c word unit
is_of_path c (key.Device set number) word = of_device_at c set number (λ d. list_any (has_meant c word) d.units)
is_of_path c _ word = false

abbrev pub is_of_paths : Wanted → Configuration → Key → Bool
is_of_paths w c k = list_any (is_of_path (lookup_of c) k) w.paths

-- ---- devices that are asked for

-- a key is among others
abbrev pub is_among : Key → List Key → Bool
is_among k ks = list_any (eq_by_cmp key_cmp k) ks

-- what leads to a device in a configuration: itself, the control units that it names, and their paths
abbrev pub path_key : CssPath → Key
path_key p = key.Path p.css p.path

abbrev pub path_keys : Lookup → ℕ → List Key
path_keys c unit = map path_key (paths_of c unit)

abbrev pub way_of : Lookup → DeviceKey → DeviceRecord → List Key
way_of c k d = key.Device k.set k.number ∷ (map key.Unit d.units ++ flat_map (path_keys c) d.units)

abbrev pub way_to : Lookup → DeviceKey → List Key
way_to c k = option_map_or (way_of c k) (device_record c k.set k.number) []

-- the devices of one of two configurations, or of both, that are asked for
abbrev pub devices_named : Wanted → Configuration → Configuration → List DeviceKey
devices_named w c d = if asks w.devices then devices_asked w c d else []

-- what leads to one of these in one of both
abbrev pub ways_to : Lookup → Lookup → List DeviceKey → List Key
ways_to c d ks = flat_map (λ k. way_to c k ++ way_to d k) ks

-- an image sees one of these in one of both
abbrev pub sees_any : Lookup → Lookup → Image → List DeviceKey → Bool
sees_any c d i ks = list_any (λ (k : DeviceKey). sees c i k.set k.number || sees d i k.set k.number) ks

abbrev pub is_of_devices : Wanted → Configuration → Configuration → Key → Bool
is_of_devices w c d (key.Image css mif) =
    sees_any (lookup_of c) (lookup_of d) (record { css = css; mif = mif }) (devices_named w c d)
is_of_devices w c d k = is_among k (ways_to (lookup_of c) (lookup_of d) (devices_named w c d))
