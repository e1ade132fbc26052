-- An image and the first device of a run, as they are found one by one.
use Rattle.std.proofs.Common.{◌≡◌, Option, None, Some, refl, ◌∙◌}
use Rattle.std.specs.Option.{option_and_then, option_map}
use Rattle.iocm_types.specs.declared.image.Image.{Image}
use Rattle.iocm_derive.specs.Sighted.{Sighted}
use Rattle.iocm_model.specs.Machine.Configuration.{Configuration, lookup_of}
use Rattle.iocm_model.specs.Machine.Record.{ImageRecord, DeviceRecord}
use Rattle.iocm_model.specs.Machine.View.{device_record}
use Rattle.iocm_plan.specs.RunEffects.{side_by, sighted_at}
use Rattle.iocm_plan.specs.Seen.{Side, image_record, side, side_with}
use Rattle.iocm_plan.specs.Sides.{sighted}
use Rattle.iocm_plan.specs.declared.runs.DeviceRun.{DeviceRun}

abbrev side_if : Option Sighted → Option DeviceRecord → Option Side
side_if (Some s) d = option_map (λ e. side_with (lookup_of s.records) e s.image) d
side_if None d = None

by_cases : (c : Configuration) (i : Option ImageRecord) (d : Option DeviceRecord) → side_if (option_map (sighted c) i) d
    ≡ option_and_then (λ e. option_map (side_with (lookup_of c) e) i) d
by_cases c None None = refl
by_cases c None (Some d) = refl
by_cases c (Some i) None = refl
by_cases c (Some i) (Some d) = refl

side_by_is : (s : Option Sighted) (c : Configuration) (r : DeviceRun)
    → side_by s c r ≡ side_if s (device_record (lookup_of c) r.first.set r.first.number)
side_by_is None c r = refl
side_by_is (Some s) c r = refl

pub side_is : (c : Configuration) (i : Image) (r : DeviceRun)
    → side_by (sighted_at c i) c r ≡ side (lookup_of c) i r.first.set r.first.number
side_is c i r = side_by_is (sighted_at c i) c r
    ∙ by_cases c (image_record (lookup_of c) i) (device_record (lookup_of c) r.first.set r.first.number)
