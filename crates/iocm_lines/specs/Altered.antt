-- The line of an altered subchannel: what was seen there before, and what is seen afterwards.
use Rattle.std.specs.Prelude.{[], ◌∷◌, codes, Option, None, Some}
use Rattle.iocm_types.specs.declared.sub_id.SubId.{SubId}
use Rattle.iocm_types.specs.declared.view.View.{View}
use Rattle.iocm_types.specs.Print.{hex2, hex4}
use Rattle.serde_json.specs.Data.{Data, null, string}
use Rattle.iocm_lines.specs.Members.{object_of, count, path_list, image_name, subchannel_name}
use Rattle.iocm_lines.specs.Subchannel.{paths_in}

-- what is seen there, or null
abbrev pub seen_value : Option View → Data
seen_value None = null
seen_value (Some v) =
    object_of (
    (codes "available", path_list (paths_in v.pam v.paths))
    ∷ (codes "device", string (hex4 v.device))
    ∷ (codes "installed", path_list (paths_in v.pim v.paths))
    ∷ (codes "pam", string (hex2 v.pam))
    ∷ (codes "paths", path_list v.paths)
    ∷ (codes "pim", string (hex2 v.pim)) ∷ [])

-- a subchannel, with what was seen there before and what is seen there afterwards
abbrev pub altered_value : SubId → Option View → Option View → Data
altered_value s before after =
    object_of (
    (codes "after", seen_value after)
    ∷ (codes "before", seen_value before)
    ∷ (codes "css", count s.image.css)
    ∷ (codes "image", string (image_name s.image))
    ∷ (codes "number", string (hex4 s.number))
    ∷ (codes "set", count s.set)
    ∷ (codes "subchannel", string (subchannel_name s))
    ∷ (codes "type", string (codes "altered")) ∷ [])
