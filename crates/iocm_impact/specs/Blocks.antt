-- Images with equal rows are told together.
use Rattle.std.specs.Prelude.{Bool, ◌==◌, ◌&&◌, if◌then◌else◌, List, [], ◌∷◌, ◌++◌, length}
use Rattle.std.specs.List.{list_all, zip}
use Rattle.iocm_impact.specs.Rows.{tells_same}
use Rattle.iocm_impact.specs.declared.named_image.NamedImage.{NamedImage}
use Rattle.iocm_impact.specs.declared.row.Row.{Row}

-- rows are equal: of the same devices the same is told
abbrev pub same_row : Row × Row → Bool
same_row p = p.0.run.first.set == p.1.run.first.set && p.0.run.first.number == p.1.run.first.number
    && p.0.run.count == p.1.run.count && tells_same p.0.effect p.1.effect

abbrev pub same_rows : List Row → List Row → Bool
same_rows rs ss = (length rs == length ss) && list_all same_row (zip rs ss)

-- images, and the rows that they have
pub record Told : Type 0 where
  pub images : List NamedImage
  pub rows : List Row

abbrev pub with_image : Told → NamedImage → Told
with_image b i = record { images = b.images ++ i ∷ []; rows = b.rows }

-- an image with its rows: it is in the first block with equal rows, or in a block of its own behind the others
abbrev pub told_in : List Told → NamedImage → List Row → List Told
told_in [] i rs = record { images = i ∷ []; rows = rs } ∷ []
told_in (b ∷ bs) i rs = if same_rows b.rows rs then with_image b i ∷ bs else b ∷ told_in bs i rs

-- an image without rows is in none
abbrev pub with_told : List Told → NamedImage → List Row → List Told
with_told bs i [] = bs
with_told bs i (r ∷ rs) = told_in bs i (r ∷ rs)
