-- Images that are marked for each path of a channel subsystem: 16 places for each, by MIF image ID.
use Rattle.std.specs.Prelude.{◌≡◌, ◌≢◌, ℕ, ◌+◌, ◌*◌, ◌<◌, ◌≤◌, Bool, false, ◌||◌, List, Option, None, slice_index_or}
use Rattle.iocm_reach.specs.Reached.{is_named}
use Rattle.iocm_reach.specs.declared.range.PathRange.{PathRange}

-- whether an image is marked for a path
abbrev pub mark_at : List Bool → ℕ → ℕ → Bool
mark_at marks path mif = slice_index_or marks (path * 16 + mif) false

-- for each path of a range just the images are marked of which a test says so
abbrev pub AreMarksOf : (ℕ → ℕ → Bool) → PathRange → List Bool → Type 0
AreMarksOf test r marks =
    (path mif : ℕ) → r.first ≤ path → path ≤ r.last → 0 < mif → mif < 16 → mark_at marks path mif ≡ test path mif

-- for one path the images were marked whose names pass a test, and no others
pub record IsRowMarked (path : ℕ) (test : List ℕ → Bool) (names : List (Option (List ℕ))) (old new : List Bool) : Type
    0 where
  pub here : (mif : ℕ) → 0 < mif → mif < 16
      → mark_at new path mif ≡ (mark_at old path mif || is_named test (slice_index_or names mif None))
  pub others : (other mif : ℕ) → other ≢ path → mif < 16 → mark_at new other mif ≡ mark_at old other mif
