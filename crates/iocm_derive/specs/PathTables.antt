-- Tables of paths by their numbers.
use Rattle.std.specs.Prelude.{◌≡◌, ℕ, ◌<◌, Bool, false, List, Option, None, Some, nat_eq, if◌then◌else◌, slice_index_or}
use Rattle.iocm_types.specs.declared.key.Key.{Key}
use Rattle.iocm_types.specs.declared.key.Key.TheVariants.{Path, Online}
use Rattle.iocm_derive.specs.declared.path_tables.OnlinePath.{OnlinePath}

-- a table has at each path number what a test says of it
abbrev pub IsTableOf : (ℕ → Bool) → List Bool → Type 0
IsTableOf test table = (number : ℕ) → number < 256 → slice_index_or table number false ≡ test number

-- the path whose key this is, if it is that of a path of this channel subsystem
abbrev pub path_under : ℕ → Key → Option ℕ
path_under css (Path of path) = if nat_eq of css then Some path else None
path_under css _ = None

-- the path whose key this is, with the image to which it is online, if it is that of an online path
-- of this channel subsystem
abbrev pub online_under : ℕ → Key → Option OnlinePath
online_under css (Online of path name) = if nat_eq of css then Some (record { path = path; name = name }) else None
online_under css _ = None
