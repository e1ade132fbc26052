-- What a change of a configuration does: to which images, and to how many devices.
use Rattle.std.specs.Prelude.{ℕ, Bool, Option, None, Some, List, [], length, map, filter, fold}
use Rattle.std.specs.FinMap.{entries}
use Rattle.std.specs.List.{filter_map}
use Rattle.std.specs.Option.{option_and_then, option_or}
use Rattle.iocm_types.specs.declared.image.Image.{Image}
use Rattle.iocm_model.specs.Machine.Configuration.{Configuration, lookup_of}
use Rattle.iocm_model.specs.Machine.Record.{Rec, image}
use Rattle.iocm_difference.specs.Walks.{Pair, pairs_of}
use Rattle.iocm_filter.specs.Wanted.{Wanted}
use Rattle.iocm_sight.specs.declared.devices.DeviceKey.{DeviceKey}
use Rattle.iocm_plan.specs.Left.{effect_left, effects_on_runs}
use Rattle.iocm_plan.specs.RunEffects.{is_affected}
use Rattle.iocm_plan.specs.Runs.{runs_asked}
use Rattle.iocm_plan.specs.declared.effect.Effect.{Effect}
use Rattle.iocm_plan.specs.declared.runs.DeviceRun.{DeviceRun}
use Rattle.iocm_impact.specs.Blocks.{Told, with_told}
use Rattle.iocm_impact.specs.Counts.{counts_of}
use Rattle.iocm_impact.specs.Marks.{either, marks_of, no_marks}
use Rattle.iocm_impact.specs.Rows.{rows}
use Rattle.iocm_impact.specs.declared.counts.Counts.{Counts}
use Rattle.iocm_impact.specs.declared.counts.ImageCounts.{ImageCounts}
use Rattle.iocm_impact.specs.declared.marks.Marks.{Marks}
use Rattle.iocm_impact.specs.declared.named_image.NamedImage.{NamedImage}
use Rattle.iocm_impact.specs.declared.row.Row.{Row}

-- ---- images

-- the image of a record, with its name
abbrev pub image_of : Rec → Option NamedImage
image_of (image i) = Some (record { image = record { css = i.css; mif = i.mif }; name = i.name })
image_of _ = None

-- by its name after, or before if it is deleted
abbrev pub named_image : Pair → Option NamedImage
named_image p = option_or (option_and_then image_of p.1.1) (option_and_then image_of p.1.0)

-- every image of one of two configurations, or of both, in the order of keys
abbrev pub named_images : Configuration → Configuration → List NamedImage
named_images c d = filter_map named_image (pairs_of (entries c) (entries d))

-- ---- a change: what filters ask for, or only what is lost, and the configurations before and after

pub record Change : Type 0 where
  pub wanted : Wanted
  pub is_lost : Bool
  pub before : Configuration
  pub after : Configuration

-- what it does to an image and a device, and to an image and each run of devices
abbrev pub effect_on : Change → Image → DeviceKey → Effect
effect_on x i k = effect_left x.wanted x.is_lost (lookup_of x.before) (lookup_of x.after) i k

abbrev pub runs_of : Change → List DeviceRun
runs_of x = runs_asked x.wanted x.before x.after

abbrev pub effects_on : Change → NamedImage → List Effect
effects_on x i =
    effects_on_runs x.wanted x.is_lost (lookup_of x.before) (lookup_of x.after) i.image (runs_of x)

abbrev pub images_of : Change → List NamedImage
images_of x = named_images x.before x.after

-- ---- what is told of images

abbrev pub is_affected_by : Change → NamedImage → Bool
is_affected_by x i = is_affected (effects_on x i)

-- an image with its counts, and its rows
abbrev pub counts_on : Change → NamedImage → ImageCounts
counts_on x i = record { image = i; counts = counts_of (runs_of x) (map marks_of (effects_on x i)) }

abbrev pub rows_on : Change → NamedImage → List Row
rows_on x i = rows (runs_of x) (effects_on x i)

-- the images that are affected, with their counts
abbrev pub counts_among : Change → List NamedImage → List ImageCounts
counts_among x is = map (counts_on x) (filter (is_affected_by x) is)

-- blocks of images with equal rows, in the order of their first
abbrev pub blocks_from : Change → List Told → List NamedImage → List Told
blocks_from x bs is = fold (λ bs i. with_told bs i (rows_on x i)) bs is

-- ---- of devices

-- the marks that a device has for some image, and how many devices have each: each device counts once
abbrev pub marks_for : Change → List NamedImage → DeviceKey → Marks
marks_for x is k = fold (λ m (i : NamedImage). either m (marks_of (effect_on x i.image k))) no_marks is

abbrev pub marks_among : Change → List NamedImage → List Marks
marks_among x is = map (λ (r : DeviceRun). marks_for x is r.first) (runs_of x)

-- ---- the whole

pub record Impact : Type 0 where
  pub images : List ImageCounts
  pub blocks : List Told
  pub devices : Counts
  pub all : ℕ

abbrev pub impact : Change → Impact
impact x = record {
  images = counts_among x (images_of x);
  blocks = blocks_from x [] (images_of x);
  devices = counts_of (runs_of x) (marks_among x (images_of x));
  all = length (images_of x);
}
