-- What is told of a device of a run is told of the others, and of which devices it is told.
use Rattle.std.specs.Prelude.{◌≡◌, Bool, true, false, Option}
use Rattle.std.specs.List.{flat_map}
use Rattle.std.specs.Option.{option_map}
use Rattle.iocm_types.specs.declared.image.Image.{Image}
use Rattle.iocm_types.specs.declared.view.View.{View}
use Rattle.iocm_model.specs.Machine.Configuration.{Configuration, lookup_of}
use Rattle.iocm_filter.specs.Wanted.{Wanted, asks_nothing}
use Rattle.iocm_plan.specs.Effects.{effect, effect_between}
use Rattle.iocm_plan.specs.Left.{effect_left, left_between}
use Rattle.iocm_plan.specs.Runs.{are_alike, continues, devices_asked, devices_in_run, runs_asked, wants_key}
use Rattle.iocm_plan.specs.Seen.{Side}
use Rattle.iocm_sight.specs.declared.devices.DeviceKey.{DeviceKey}
use Rattle.iocm_plan.specs.declared.effect.Effect.{Effect}
use Rattle.iocm_plan.specs.declared.runs.DeviceRun.{DeviceRun}

-- an effect without the number of the device
abbrev pub unnumbered : View → View
unnumbered v = record { device = 0; paths = v.paths; pim = v.pim; pam = v.pam }

abbrev pub without_number : Effect → Effect
without_number e = record {
  before = option_map unnumbered e.before;
  after = option_map unnumbered e.after;
  interrupted = e.interrupted;
  offon = e.offon;
}

-- to devices that are alike a change does the same, whatever the image
abbrev pub AlikeAreToldAlike : Type 0
AlikeAreToldAlike = (c d : Configuration) (i : Image) (k l : DeviceKey) → are_alike c d k l ≡ true
    → without_number (effect (lookup_of c) (lookup_of d) i k.set k.number)
    ≡ without_number (effect (lookup_of c) (lookup_of d) i l.set l.number)

-- the devices of the runs, one by one, are those of both configurations that are asked for, each in its run
abbrev pub RunsAreTheDevices : Type 0
RunsAreTheDevices = (w : Wanted) (c d : Configuration)
    → flat_map devices_in_run (runs_asked w c d) ≡ devices_asked w c d

-- a device that continues a run is told as its first, if both are asked for
pub record Continues (w : Wanted) (c d : Configuration) (r : DeviceRun) (k : DeviceKey) : Type 0 where
  pub next : continues c d r k ≡ true
  pub first_asked : wants_key w r.first ≡ true
  pub asked : wants_key w k ≡ true

abbrev pub RunsAreToldAlike : Type 0
RunsAreToldAlike = (w : Wanted) (is_lost : Bool) (c d : Configuration) (i : Image) (r : DeviceRun) (k : DeviceKey)
    → Continues w c d r k
    → without_number (effect_left w is_lost (lookup_of c) (lookup_of d) i r.first)
    ≡ without_number (effect_left w is_lost (lookup_of c) (lookup_of d) i k)

-- without filters what is left is what the change does
abbrev pub WithoutFiltersAllIsTold : Type 0
WithoutFiltersAllIsTold = (w : Wanted) → asks_nothing w ≡ true → (k : DeviceKey) (b a : Option Side)
    → left_between w false k b a ≡ effect_between b a
