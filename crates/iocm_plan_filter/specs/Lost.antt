-- What was on the way of a device that is lost: the image to which it is lost, the device, its control units, and the
-- paths by which the image saw it before.
use Rattle.std.specs.Prelude.{ℕ, Bool, ◌==◌, ◌&&◌, ◌+◌, nat_le, nat_lt, List, [], ◌∷◌, ◌++◌, map, filter}
use Rattle.std.specs.Prelude.{true}
use Rattle.std.specs.List.{flat_map, list_any, zip}
use Rattle.std.specs.Option.{option_map_or}
use Rattle.iocm_types.specs.declared.image.Image.{Image}
use Rattle.iocm_types.specs.declared.key.Key.{Key}
use Rattle.iocm_types.specs.declared.key.Key.TheVariants as key
use Rattle.iocm_model.specs.Machine.Configuration.{Configuration, lookup_of}
use Rattle.iocm_model.specs.Machine.Record.{DeviceRecord}
use Rattle.iocm_filter.specs.Wanted.{Wanted}
use Rattle.iocm_plan.specs.Effects.{lost}
use Rattle.iocm_plan.specs.Left.{effects_on_runs}
use Rattle.iocm_plan.specs.RunEffects.{images_of_both}
use Rattle.iocm_plan.specs.Runs.{device_in, runs_asked}
use Rattle.iocm_plan.specs.Seen.{paths_of}
use Rattle.iocm_plan.specs.declared.effect.Effect.{Effect}
use Rattle.iocm_plan.specs.declared.runs.DeviceRun.{DeviceRun}
use Rattle.iocm_sight.specs.declared.devices.DeviceKey.{DeviceKey}
use Rattle.iocm_plan_filter.specs.Connected.{is_among}
use Rattle.iocm_plan_filter.specs.declared.lost.RunEffect.{RunEffect}

-- ---- runs that are lost to an image

abbrev pub with_effect : DeviceRun × Effect → RunEffect
with_effect p = record { run = p.0; effect = p.1 }

abbrev pub is_lost : RunEffect → Bool
is_lost r = lost r.effect.before r.effect.after

-- of runs, to which a change does this, those that are lost
abbrev pub lost_among : List DeviceRun → List Effect → List RunEffect
lost_among rs es = filter is_lost (map with_effect (zip rs es))

-- of the runs that filters ask for those that are lost to the image
abbrev pub lost_to : Wanted → Configuration → Configuration → List DeviceRun → Image → List RunEffect
lost_to w c d rs i = lost_among rs (effects_on_runs w true (lookup_of c) (lookup_of d) i rs)

-- ---- their ways

abbrev pub first_key : DeviceRun → Key
first_key r = key.Device r.first.set r.first.number

abbrev pub unit_keys : Configuration → DeviceKey → List Key
unit_keys c k = option_map_or (λ (d : DeviceRecord). map key.Unit d.units) (device_in c k) []

-- the image, the first device of the run, its control units, and the paths of the view before
abbrev pub way_lost : Configuration → Image → RunEffect → List Key
way_lost c i r = key.Image i.css i.mif ∷ (first_key r.run ∷ (unit_keys c r.run.first
    ++ map (key.Path i.css) (paths_of r.effect.before)))

abbrev pub ways_lost_to : Wanted → Configuration → Configuration → List DeviceRun → Image → List Key
ways_lost_to w c d rs i = flat_map (way_lost c i) (lost_to w c d rs i)

abbrev pub ways_lost_by : Wanted → Configuration → Configuration → List DeviceRun → List Key
ways_lost_by w c d rs = flat_map (ways_lost_to w c d rs) (images_of_both c d)

abbrev pub ways_lost : Wanted → Configuration → Configuration → List Key
ways_lost w c d = ways_lost_by w c d (runs_asked w c d)

-- ---- objects on them

-- a device is one of a run
abbrev pub is_in_run : ℕ → ℕ → DeviceRun → Bool
is_in_run set number r = r.first.set == set && nat_le r.first.number number && nat_lt number (r.first.number + r.count)

-- the runs of which the first device is on such a way: to the others a change does the same
abbrev pub runs_lost_by : Wanted → Configuration → Configuration → List DeviceRun → List DeviceRun
runs_lost_by w c d rs = filter (λ r. is_among (first_key r) (ways_lost_by w c d rs)) rs

abbrev pub runs_lost : Wanted → Configuration → Configuration → List DeviceRun
runs_lost w c d = runs_lost_by w c d (runs_asked w c d)

-- an object is on a way of which the keys are these, but for devices, which are in these runs
abbrev pub is_on_way : (Key → Bool) → List DeviceRun → Key → Bool
is_on_way is_so rs (key.Device set number) = list_any (is_in_run set number) rs
is_on_way is_so rs k = is_so k

abbrev pub was_on_way : Wanted → Configuration → Configuration → Key → Bool
was_on_way w c d k = is_on_way (λ own. is_among own (ways_lost w c d)) (runs_lost w c d) k
