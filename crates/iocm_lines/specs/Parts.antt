-- The parts of lines between numbers, lists of paths and views.
-- Bytes by their codes: 46 is a point.

-- ---- the line of a subchannel
use Rattle.std.specs.Prelude.{ℕ, List, [], ◌∷◌, ◌++◌, codes}
use Rattle.iocm_types.specs.declared.image.Image.{Image}
use Rattle.iocm_types.specs.declared.sub_id.SubId.{SubId}
use Rattle.iocm_types.specs.declared.view.View.{View}
use Rattle.iocm_types.specs.Print.{hex1, hex2, hex4}
use Rattle.serde_json.specs.Written.{compact_text}
use Rattle.iocm_lines.specs.Members.{image_name, path_list, subchannel_name}
use Rattle.iocm_lines.specs.Subchannel.{paths_in}

-- up to the number of the device
abbrev pub front : Image → View → List ℕ
front i v =
    codes "{\"available\":" ++ (compact_text (path_list (paths_in v.pam v.paths))
    ++ (codes ",\"css\":" ++ (hex1 i.css ++ codes ",\"device\":\"")))

-- from there to the number of the subchannel
abbrev pub middle : Image → List ℕ → View → List ℕ
middle i name v =
    codes "\",\"image\":\"" ++ (image_name i ++ (codes "\",\"installed\":"
    ++ (compact_text (path_list (paths_in v.pim v.paths))
    ++ (codes ",\"name\":\"" ++ (name ++ codes "\",\"number\":\"")))))

-- the set, and the name of a subchannel up to its number
abbrev pub name_begun : Image → ℕ → List ℕ
name_begun i set =
    codes "\",\"set\":" ++ (hex1 set ++ (codes ",\"subchannel\":\"" ++ (image_name i ++ (46 ∷ (hex1 set ++ 46 ∷ [])))))

-- from there to the number in the name of the subchannel
abbrev pub back : Image → ℕ → View → List ℕ
back i set v =
    codes "\",\"pam\":\"" ++ (hex2 v.pam ++ (codes "\",\"paths\":" ++ (compact_text (path_list (paths_in 255 v.paths))
    ++ (codes ",\"pim\":\"" ++ (hex2 v.pim ++ name_begun i set)))))

-- ---- what is seen at an altered subchannel

abbrev pub seen_until_installed : View → List ℕ
seen_until_installed v = codes ",\"device\":\"" ++ (hex4 v.device ++ codes "\",\"installed\":")

abbrev pub seen_until_paths : View → List ℕ
seen_until_paths v = codes ",\"pam\":\"" ++ (hex2 v.pam ++ codes "\",\"paths\":")

abbrev pub seen_end : View → List ℕ
seen_end v = codes ",\"pim\":\"" ++ (hex2 v.pim ++ codes "\"}")

-- from what was seen before to the end, without the line feed
abbrev pub altered_end : SubId → List ℕ
altered_end s =
    codes ",\"css\":" ++ (hex1 s.image.css ++ (codes ",\"image\":\"" ++ (image_name s.image
    ++ (codes "\",\"number\":\"" ++ (hex4 s.number ++ (codes "\",\"set\":" ++ (hex1 s.set
    ++ (codes ",\"subchannel\":\"" ++ (subchannel_name s ++ codes "\",\"type\":\"altered\"}")))))))))
