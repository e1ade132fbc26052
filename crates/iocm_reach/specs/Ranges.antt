-- The keys of the paths of a channel subsystem, and of those by which they are online, up to the
-- last of a range.
use Rattle.std.specs.Prelude.{ℕ, ◌&&◌, nat_eq, nat_le, List, [], ◌∷◌, Option, None, Some, if◌then◌else◌}
use Rattle.iocm_types.specs.declared.key.Key.{Key}
use Rattle.iocm_types.specs.declared.key.Key.TheVariants.{Path, Online}
use Rattle.iocm_reach.specs.declared.online.OnlinePath.{OnlinePath}
use Rattle.iocm_reach.specs.declared.range.PathRange.{PathRange}

-- the name A, which is before all others
abbrev pub least : List ℕ
least = 65 ∷ []

-- the path whose key this is, if it is that of one of these paths
abbrev pub path_within : PathRange → Key → Option ℕ
path_within r (Path of path) = if nat_eq of r.css && nat_le path r.last then Some path else None
path_within r _ = None

-- the path whose key this is, with the image to which it is online, if it is that of one of these
abbrev pub online_within : PathRange → Key → Option OnlinePath
online_within r (Online of path name) =
    if nat_eq of r.css && nat_le path r.last then Some (record { path = path; name = name }) else None
online_within r _ = None
