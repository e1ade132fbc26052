-- The reasons of all paths that stay online by another route: of each image, each run of devices and each path, as
-- filters leave them.
use Rattle.std.specs.Prelude.{ℕ, Bool, if◌then◌else◌, Option, Some, List, []}
use Rattle.std.specs.List.{flat_map}
use Rattle.iocm_model.specs.Machine.Configuration.{lookup_of}
use Rattle.iocm_filter.specs.Wanted.{Wanted}
use Rattle.iocm_plan.specs.Effects.{stays_on}
use Rattle.iocm_plan.specs.Left.{left_between}
use Rattle.iocm_plan.specs.Seen.{Side, paths_of, side, view_in}
use Rattle.iocm_plan.specs.declared.runs.DeviceRun.{DeviceRun}
use Rattle.iocm_impact.specs.Impact.{Change, images_of, runs_of}
use Rattle.iocm_impact.specs.declared.named_image.NamedImage.{NamedImage}
use Rattle.iocm_offon.specs.Reasons.{reasons_at}
use Rattle.iocm_offon.specs.declared.reason.Reason.{Reason}
use Rattle.iocm_offon.specs.declared.reason.Spot.{Spot}

-- a path from an image of a channel subsystem to a run of devices
abbrev pub spot : NamedImage → DeviceRun → ℕ → ℕ → Spot
spot i r css p = record { image = i; run = r; path = record { css = css; path = p } }

-- the reasons at a path that is online before and after, none if it is so by one route; and at each in the view before
abbrev pub reasons_over : NamedImage → DeviceRun → Side → Side → ℕ → List Reason
reasons_over i r b a p =
    if stays_on (Some b) (Some a) p then reasons_at (spot i r b.image.css p) b a else []

abbrev pub reasons_over_all : NamedImage → DeviceRun → Option Side → Option Side → List Reason
reasons_over_all i r (Some b) (Some a) = flat_map (reasons_over i r b a) (paths_of (view_in b))
reasons_over_all i r _ _ = []

-- of an image and a run, if filters leave it
abbrev pub reasons_between : Wanted → Bool → NamedImage → DeviceRun → Option Side → Option Side → List Reason
reasons_between w is_lost i r b a =
    if (left_between w is_lost r.first b a).offon then reasons_over_all i r b a else []

abbrev pub reasons_on : Change → NamedImage → DeviceRun → List Reason
reasons_on x i r = reasons_between x.wanted x.is_lost i r
    (side (lookup_of x.before) i.image r.first.set r.first.number)
    (side (lookup_of x.after) i.image r.first.set r.first.number)

-- of an image and some runs, and of all images
abbrev pub reasons_on_runs : Change → List DeviceRun → NamedImage → List Reason
reasons_on_runs x rs i = flat_map (reasons_on x i) rs

abbrev pub reasons : Change → List Reason
reasons x = flat_map (reasons_on_runs x (runs_of x)) (images_of x)
