-- How a table is written: by the names of images, the rows of a range of paths at once, or image by
-- image.
use Rattle.std.specs.Prelude.{◌≡◌, ◌≢◌, ℕ, ◌<◌, ◌≤◌, ◌⊎◌, Bool, List, Option, None, IfSome, IsTrue, slice_index_or}
use Rattle.std.specs.Prelude.{length}
use Rattle.iocm_types.specs.Name.{is_name}
use Rattle.iocm_model.specs.Machine.Configuration.{Lookup}
use Rattle.iocm_derive.specs.Derived.{name_at}
use Rattle.iocm_reach.specs.declared.image_path.ImagePath.{ImagePath}
use Rattle.iocm_reach.specs.declared.range.PathRange.{PathRange}
use Rattle.iocm_reach.specs.Marking.{mark_at}
use Rattle.iocm_reach.specs.Reached.{image_in, path_to}
use Rattle.iocm_reach.specs.Tabled.{row_of, cell_of, IsRowOf}

-- the names of the images of a channel subsystem, by MIF image ID
pub record AreNamesOf (c : Lookup) (css : ℕ) (names : List (Option (List ℕ))) : Type 0 where
  pub each : (mif : ℕ) → 0 < mif → mif < 16 → slice_index_or names mif None ≡ name_at c (image_in css mif)
  pub valid : (mif : ℕ) → 0 < mif → mif < 16 → IfSome (name_at c (image_in css mif)) (λ name. IsTrue (is_name name))

-- a path is in another channel subsystem than those of a range, before the first or after the last
abbrev pub IsBeside : PathRange → ℕ → ℕ → Type 0
IsBeside r of path = (of ≢ r.css) ⊎ ((path < r.first) ⊎ (r.last < path))

-- the rows of a range of paths were written from marks, and no others
pub record AreRowsWritten (r : PathRange) (listed online : List Bool) (old new : List ImagePath) : Type 0 where
  pub rows : (path mif : ℕ) → r.first ≤ path → path ≤ r.last → mif < 16
      → cell_of new (row_of r.css path) mif
      ≡ record { reached = mark_at listed path mif; online = mark_at online path mif }
  pub others : (of path mif : ℕ) → path < 256 → mif < 16 → IsBeside r of path
      → cell_of new (row_of of path) mif ≡ cell_of old (row_of of path) mif
  pub long : length new ≡ length old

-- the rows of a range of paths were written for a configuration, and no others
pub record AreRowsSet (c : Lookup) (r : PathRange) (old new : List ImagePath) : Type 0 where
  pub rows : (path : ℕ) → r.first ≤ path → path ≤ r.last → IsRowOf c r.css path new
  pub others : (of path mif : ℕ) → path < 256 → mif < 16 → IsBeside r of path
      → cell_of new (row_of of path) mif ≡ cell_of old (row_of of path) mif
  pub long : length new ≡ length old

-- what an image has of each path of its channel subsystem was written, and nothing else
pub record IsImageSet (c : Lookup) (css mif : ℕ) (old new : List ImagePath) : Type 0 where
  pub paths : (path : ℕ) → path < 256 → cell_of new (row_of css path) mif ≡ path_to c css path mif
  pub others : (of path other : ℕ) → path < 256 → other < 16 → (of ≢ css) ⊎ (other ≢ mif)
      → cell_of new (row_of of path) other ≡ cell_of old (row_of of path) other
  pub long : length new ≡ length old
