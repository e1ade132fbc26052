-- A table of what each image has of each path of its channel subsystem.
use Rattle.std.specs.Prelude.{◌≡◌, ◌≢◌, ℕ, ◌+◌, ◌*◌, ◌<◌, false, List, slice_index_or}
use Rattle.iocm_types.specs.declared.key.Key.{Key}
use Rattle.iocm_model.specs.Machine.Configuration.{Configuration, Lookup, lookup_of}
use Rattle.iocm_reach.specs.declared.image_path.ImagePath.{ImagePath}
use Rattle.iocm_reach.specs.Reached.{path_to}

-- a path that is neither reached nor online
abbrev pub neither : ImagePath
neither = record { reached = false; online = false }

-- the row of a path: 256 for each channel subsystem
abbrev pub row_of : ℕ → ℕ → ℕ
row_of css path = css * 256 + path

-- what a table has in a row for a MIF image ID; the place of ID 0 is no image's
abbrev pub cell_of : List ImagePath → ℕ → ℕ → ImagePath
cell_of table row mif = slice_index_or table (row * 16 + mif) neither

-- the row of a path says of each image of the channel subsystem whether it reaches the path, and
-- whether the path is online to it
abbrev pub IsRowOf : Lookup → ℕ → ℕ → List ImagePath → Type 0
IsRowOf c css path table = (mif : ℕ) → 0 < mif → mif < 16 → cell_of table (row_of css path) mif ≡ path_to c css path mif

-- each row of a table says just this
abbrev pub IsReachOf : Configuration → List ImagePath → Type 0
IsReachOf m table = (css path : ℕ) → css < 6 → path < 256 → IsRowOf (lookup_of m) css path table

-- two configurations have the same record of each key but one
abbrev pub IsSameBut : Key → Configuration → Configuration → Type 0
IsSameBut key before now = (other : Key) → other ≢ key → lookup_of now other ≡ lookup_of before other

-- a table is that of a configuration before the record of this key was put, changed or taken away
pub record WasReach (key : Key) (now : Configuration) (table : List ImagePath) : Type 0 where
  pub before : Configuration
  pub same : IsSameBut key before now
  pub reach : IsReachOf before table
