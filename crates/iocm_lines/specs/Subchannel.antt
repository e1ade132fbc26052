-- The line of a subchannel: what its image sees there.
use Rattle.std.specs.Prelude.{ℕ, ◌/◌, List, [], ◌∷◌, codes, ◌==◌, if◌then◌else◌}
use Rattle.std.specs.Prelude.{bit_and}
use Rattle.iocm_types.specs.declared.sub_id.SubId.{SubId}
use Rattle.iocm_types.specs.declared.view.View.{View}
use Rattle.iocm_types.specs.Print.{hex2, hex4}
use Rattle.serde_json.specs.Data.{Data, string}
use Rattle.iocm_lines.specs.Members.{object_of, count, path_list, image_name, subchannel_name}

-- the paths whose bits a mask has: this bit for the first path, half of it for the next, and so on
abbrev pub paths_from : ℕ → ℕ → List ℕ → List ℕ
paths_from bit mask [] = []
paths_from bit mask (p ∷ ps) =
    if bit_and mask bit == 0 then paths_from (bit / 2) mask ps else (p ∷ paths_from (bit / 2) mask ps)

-- the paths whose bits are in a mask of eight bits, the leftmost for the first path
abbrev pub paths_in : ℕ → List ℕ → List ℕ
paths_in mask paths = paths_from 128 mask paths

-- a subchannel with what is seen there, and the name of its image
abbrev pub subchannel_value : SubId × View → List ℕ → Data
subchannel_value row name = let s = row.0 in let v = row.1 in
    object_of (
    (codes "available", path_list (paths_in v.pam v.paths))
    ∷ (codes "css", count s.image.css)
    ∷ (codes "device", string (hex4 v.device))
    ∷ (codes "image", string (image_name s.image))
    ∷ (codes "installed", path_list (paths_in v.pim v.paths))
    ∷ (codes "name", string name)
    ∷ (codes "number", string (hex4 s.number))
    ∷ (codes "pam", string (hex2 v.pam))
    ∷ (codes "paths", path_list v.paths)
    ∷ (codes "pim", string (hex2 v.pim))
    ∷ (codes "set", count s.set)
    ∷ (codes "subchannel", string (subchannel_name s))
    ∷ (codes "type", string (codes "subchannel")) ∷ [])
