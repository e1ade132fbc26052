-- What filters leave of a plan: of an image and a device what a change does to them, if they are asked for before or
-- after, as a row of a table of subchannels is; with `lost`, only where the device is lost to the image.
use Rattle.std.specs.Prelude.{Bool, false, not, ◌&&◌, ◌||◌, if◌then◌else◌, Option, None, Some, List, map}
use Rattle.iocm_types.specs.declared.image.Image.{Image}
use Rattle.iocm_types.specs.declared.view.View.{View}
use Rattle.iocm_model.specs.Machine.Configuration.{Lookup}
use Rattle.iocm_filter.specs.Wanted.{Wanted, wants_view}
use Rattle.iocm_sight.specs.Connected.{wants_units}
use Rattle.iocm_sight.specs.WantedRows.{wants_image}
use Rattle.iocm_sight.specs.declared.devices.DeviceKey.{DeviceKey}
use Rattle.iocm_plan.specs.Effects.{effect_between, lost}
use Rattle.iocm_plan.specs.Runs.{wants_key}
use Rattle.iocm_plan.specs.Seen.{Side, seen, side, view_in}
use Rattle.iocm_plan.specs.declared.effect.Effect.{Effect}
use Rattle.iocm_plan.specs.declared.runs.DeviceRun.{DeviceRun}

-- a view is there, and it is asked for with its image, by the image's place or its name there, and with the control
-- units of its device
abbrev pub is_view_asked : Wanted → Side → Option View → Bool
is_view_asked w s None = false
is_view_asked w s (Some v) = wants_image w s.image && wants_units w s.device.units && wants_view w s.image.css v

-- what an image sees of a device is asked for
abbrev pub is_asked : Wanted → Option Side → Bool
is_asked w None = false
is_asked w (Some s) = is_view_asked w s (view_in s)

-- so it is before or after, and the number of the device is in a range that is asked for
abbrev pub is_asked_of_both : Wanted → DeviceKey → Option Side → Option Side → Bool
is_asked_of_both w k b a = wants_key w k && (is_asked w b || is_asked w a)

-- all is told, or what is lost alone
abbrev pub is_told : Bool → Option View → Option View → Bool
is_told is_lost b a = not is_lost || lost b a

-- nothing is seen before and after, so that nothing is told
abbrev pub no_effect : Effect
no_effect = record { before = None; after = None; interrupted = false; offon = false }

-- what filters leave of what a change does
abbrev pub left_between : Wanted → Bool → DeviceKey → Option Side → Option Side → Effect
left_between w is_lost k b a =
    if is_asked_of_both w k b a && is_told is_lost (seen b) (seen a) then effect_between b a else no_effect

-- to an image and a device
abbrev pub effect_left : Wanted → Bool → Lookup → Lookup → Image → DeviceKey → Effect
effect_left w is_lost c d i k = left_between w is_lost k (side c i k.set k.number) (side d i k.set k.number)

-- to an image and the first device of each run, to whose others it does the same
abbrev pub effects_on_runs : Wanted → Bool → Lookup → Lookup → Image → List DeviceRun → List Effect
effects_on_runs w is_lost c d i rs = map (λ (r : DeviceRun). effect_left w is_lost c d i r.first) rs
