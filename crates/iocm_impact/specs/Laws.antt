-- What rows and counts promise, device by device.
use Rattle.std.specs.Prelude.{◌≡◌, ℕ, Bool, List, map, filter, count_by}
use Rattle.std.specs.List.{flat_map, list_any}
use Rattle.iocm_types.specs.declared.image.Image.{Image}
use Rattle.iocm_model.specs.Machine.Configuration.{IsKeyed}
use Rattle.iocm_sight.specs.declared.devices.DeviceKey.{DeviceKey}
use Rattle.iocm_plan.specs.Effects.{has_row}
use Rattle.iocm_plan.specs.Runs.{devices_asked, devices_in_run}
use Rattle.iocm_plan.specs.ToldAlike.{without_number}
use Rattle.iocm_plan.specs.declared.effect.Effect.{Effect}
use Rattle.iocm_impact.specs.Counts.{counts_by}
use Rattle.iocm_impact.specs.Impact.{Change, counts_on, effect_on, images_of, impact, rows_on}
use Rattle.iocm_impact.specs.Marks.{has, marks_of}
use Rattle.iocm_impact.specs.declared.marks.Mark.{Mark}
use Rattle.iocm_impact.specs.declared.named_image.NamedImage.{NamedImage}
use Rattle.iocm_impact.specs.declared.row.Row.{Row}

-- each record of both configurations is under its key
pub record IsOfKeyed (x : Change) : Type 0 where
  pub before : IsKeyed x.before
  pub after : IsKeyed x.after

-- the devices of both that are asked for
abbrev pub devices_of : Change → List DeviceKey
devices_of x = devices_asked x.wanted x.before x.after

-- ---- rows

-- a device with what is told of it; whether a row tells it
abbrev pub ToldDevice : Type 0
ToldDevice = DeviceKey × Effect

abbrev pub told_of : Change → Image → DeviceKey → ToldDevice
told_of x i k = (k, without_number (effect_on x i k))

abbrev pub is_told_in_row : ToldDevice → Bool
is_told_in_row t = has_row t.1

-- a row written out: each of its devices, with what the row tells
abbrev pub written_out : Row → List ToldDevice
written_out r = map (λ (k : DeviceKey). (k, without_number r.effect)) (devices_in_run r.run)

-- the rows of an image written out are the devices of both, each once and in order, of which a row is told, with what
-- is told of each
abbrev pub RowsAreAllThatDiffer : Type 0
RowsAreAllThatDiffer = (x : Change) → IsOfKeyed x → (i : NamedImage)
    → flat_map written_out (rows_on x i) ≡ filter is_told_in_row (map (told_of x i.image) (devices_of x))

-- ---- counts

-- a device has a mark for an image
abbrev pub is_marked : Change → Mark → DeviceKey → NamedImage → Bool
is_marked x m k i = has m (marks_of (effect_on x i.image k))

-- the counts of an image are the numbers of devices that have each mark for it
abbrev pub CountsAreRows : Type 0
CountsAreRows = (x : Change) → IsOfKeyed x → (i : NamedImage)
    → (counts_on x i).counts ≡ counts_by (λ m. count_by (λ k. is_marked x m k i) (devices_of x))

-- those of devices are the numbers of devices that have each mark for some image
abbrev pub DevicesAreCountedOnce : Type 0
DevicesAreCountedOnce = (x : Change) → IsOfKeyed x
    → (impact x).devices ≡ counts_by (λ m. count_by (λ k. list_any (is_marked x m k) (images_of x)) (devices_of x))
