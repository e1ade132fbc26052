-- The images of both configurations, and an image with the first device of a run: an image is asked once for each
-- run.
use Rattle.std.specs.Prelude.{Bool, Option, None, Some, List}
use Rattle.std.specs.FinMap.{entries}
use Rattle.std.specs.List.{filter_map, list_any}
use Rattle.std.specs.Option.{option_map}
use Rattle.iocm_types.specs.declared.image.Image.{Image}
use Rattle.iocm_types.specs.declared.key.Key.{Key}
use Rattle.iocm_types.specs.declared.key.Key.TheVariants as key
use Rattle.iocm_derive.specs.Sighted.{Sighted}
use Rattle.iocm_model.specs.Machine.Configuration.{Configuration, lookup_of}
use Rattle.iocm_model.specs.Machine.View.{device_record}
use Rattle.iocm_difference.specs.Walks.{Pair, pairs_of}
use Rattle.iocm_plan.specs.Effects.{affects}
use Rattle.iocm_plan.specs.Seen.{Side, image_record, side_with}
use Rattle.iocm_plan.specs.Sides.{sighted}
use Rattle.iocm_plan.specs.declared.effect.Effect.{Effect}
use Rattle.iocm_plan.specs.declared.runs.DeviceRun.{DeviceRun}

-- the image at a place of a configuration, if it is there
abbrev pub sighted_at : Configuration → Image → Option Sighted
sighted_at c i = option_map (sighted c) (image_record (lookup_of c) i)

-- an image of a configuration with the first device of a run, if both are there
abbrev pub side_by : Option Sighted → Configuration → DeviceRun → Option Side
side_by (Some s) c r = option_map (λ d. side_with (lookup_of s.records) d s.image)
    (device_record (lookup_of c) r.first.set r.first.number)
side_by None c r = None

-- ---- images

-- the image of a key, if it is that of one
abbrev pub image_key : Key → Option Image
image_key (key.Image css mif) = Some (record { css = css; mif = mif })
image_key _ = None

-- every image of one of two configurations, or of both, in the order of keys
abbrev pub images_of_both : Configuration → Configuration → List Image
images_of_both c d = filter_map (λ (p : Pair). image_key p.0) (pairs_of (entries c) (entries d))

-- an image is affected: an effect of some run is told of it
abbrev pub is_affected : List Effect → Bool
is_affected es = list_any affects es
