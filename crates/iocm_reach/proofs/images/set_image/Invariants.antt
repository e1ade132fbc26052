-- The image's places so far say what they have to, and the others are as before.
use Rattle.std.proofs.Common.{◌≡◌, ◌≢◌, ◌⊎◌, ℕ, ◌<◌, length}
use Rattle.iocm_model.specs.Machine.Configuration.{lookup_of}
use Rattle.iocm_reach.specs.Reached.{path_to}
use Rattle.iocm_reach.specs.Tabled.{cell_of, row_of}
use Rattle.iocm_reach.proofs.images.set_image.Given as goal

abbrev pub invariant-loop-number : goal.invariant-loop-number
invariant-loop-number g l = record {
  same_paths : l.paths ≡ l.config.records;
  same_online : l.online ≡ l.config.records;
  so_far : (path : ℕ) → path < l.number
      → cell_of l.table (row_of l.css path) l.fn.mif ≡ path_to (lookup_of l.config.records) l.css path l.fn.mif;
  others : (of path other : ℕ) → path < 256 → other < 16 → (of ≢ l.css) ⊎ (other ≢ l.fn.mif)
      → cell_of l.table (row_of of path) other ≡ cell_of l.fn.table (row_of of path) other;
  long : length l.table ≡ length l.fn.table;
}
