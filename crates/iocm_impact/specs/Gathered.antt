-- What has been gathered of some images, as a loop over them has it.
use Rattle.std.specs.Prelude.{Bool, if◌then◌else◌, List, [], ◌∷◌, ◌++◌, map}
use Rattle.std.specs.List.{zip}
use Rattle.iocm_model.specs.Machine.Configuration.{Configuration}
use Rattle.iocm_filter.specs.Wanted.{Wanted}
use Rattle.iocm_plan.specs.RunEffects.{is_affected}
use Rattle.iocm_plan.specs.declared.effect.Effect.{Effect}
use Rattle.iocm_plan.specs.declared.runs.DeviceRun.{DeviceRun}
use Rattle.iocm_impact.specs.Blocks.{Told, with_told}
use Rattle.iocm_impact.specs.Counts.{counts_of}
use Rattle.iocm_impact.specs.Impact.{Change, blocks_from, counts_among, marks_among}
use Rattle.iocm_impact.specs.Marks.{either, marks_of, no_marks}
use Rattle.iocm_impact.specs.Rows.{rows}
use Rattle.iocm_impact.specs.declared.counts.Counts.{Counts}
use Rattle.iocm_impact.specs.declared.counts.ImageCounts.{ImageCounts}
use Rattle.iocm_impact.specs.declared.marks.Marks.{Marks}
use Rattle.iocm_impact.specs.declared.named_image.NamedImage.{NamedImage}

abbrev pub change : Wanted → Bool → Configuration → Configuration → Change
change w is_lost c d = record { wanted = w; is_lost = is_lost; before = c; after = d }

-- images with their counts, blocks, and the marks of each run
pub record Gathered : Type 0 where
  pub images : List ImageCounts
  pub blocks : List Told
  pub marks : List Marks

abbrev pub none : List DeviceRun → Gathered
none rs = record { images = []; blocks = []; marks = map (λ (r : DeviceRun). no_marks) rs }

-- an image with its counts, if it is affected
abbrev pub counts_if : Bool → NamedImage → Counts → List ImageCounts
counts_if is_so i n = if is_so then record { image = i; counts = n } ∷ [] else []

-- an image more
abbrev pub with_image : Gathered → NamedImage → List DeviceRun → List Effect → Gathered
with_image g i rs es = record {
  images = g.images ++ counts_if (is_affected es) i (counts_of rs (map marks_of es));
  blocks = with_told g.blocks i (rows rs es);
  marks = map (λ (p : Marks × Marks). either p.0 p.1) (zip g.marks (map marks_of es));
}

-- all images
abbrev pub all : Change → List NamedImage → Gathered
all x is = record { images = counts_among x is; blocks = blocks_from x [] is; marks = marks_among x is }
