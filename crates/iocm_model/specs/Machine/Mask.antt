-- The path-installed and the path-available mask.
-- Principles of Operation, path-management-control word.
use Rattle.std.specs.Prelude.{ℕ, ◌+◌, ◌/◌, Bool, List, [], ◌∷◌, is_some, if◌then◌else◌}
use Rattle.iocm_types.specs.declared.key.Key.TheVariants.{Online}
use Rattle.iocm_model.specs.Machine.Configuration.{Lookup}
use Rattle.iocm_model.specs.Machine.Sight.{reaches}

-- this bit for the first path, half of it for the next, and so on, where the path passes the test
abbrev pub mask_from : ℕ → (ℕ → Bool) → List ℕ → ℕ
mask_from bit test [] = 0
mask_from bit test (p ∷ ps) = (if test p then bit else 0) + mask_from (bit / 2) test ps

-- a mask of eight bits, the leftmost for the first path
abbrev pub mask_of : (ℕ → Bool) → List ℕ → ℕ
mask_of test paths = mask_from 128 test paths

-- the path-installed mask: the image reaches the path
abbrev pub installed : Lookup → ℕ → List ℕ → List ℕ → ℕ
installed c css name paths = mask_of (reaches c css name) paths

-- whether the path is online to the image
abbrev pub is_online : Lookup → ℕ → List ℕ → ℕ → Bool
is_online c css name number = is_some (c (Online css number name))

-- the path-available mask: the path is online to the image
abbrev pub available : Lookup → ℕ → List ℕ → List ℕ → ℕ
available c css name paths = mask_of (is_online c css name) paths
