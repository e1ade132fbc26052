-- The lines of images.
use Rattle.std.specs.Prelude.{ℕ, List, [], ◌∷◌, codes}
use Rattle.std.specs.List.{flat_map}
use Rattle.iocm_model.specs.Machine.Configuration.{Configuration}
use Rattle.iocm_filter.specs.Wanted.{Wanted}
use Rattle.iocm_words.specs.declared.ranges.SetNumbers.{SetNumbers}
use Rattle.iocm_list.specs.ImageRows.{ImageRow, image_rows}
use Rattle.serde_json.specs.Data.{Data, string}
use Rattle.iocm_lines.specs.Lines.{line}
use Rattle.iocm_lines.specs.Members.{object_of, count, image_name}
use Rattle.iocm_record_lines.specs.Lists.{list_of}

-- what a subchannel set has taken of its numbers
abbrev pub set_value : SetNumbers → Data
set_value s =
    object_of ((codes "limit", count s.limit) ∷ (codes "set", count s.set) ∷ (codes "used", count s.used) ∷ [])

-- what is listed of an image
abbrev pub image_members : ImageRow → List (List ℕ × Data)
image_members r =
    (codes "devices", count r.devices)
    ∷ (codes "image", string (image_name r.image))
    ∷ (codes "name", string r.name)
    ∷ (codes "nopath", count r.no_path)
    ∷ (codes "numbers", list_of set_value r.numbers)
    ∷ (codes "onepath", count r.one_path)
    ∷ (codes "online", count r.online)
    ∷ (codes "paths", count r.paths)
    ∷ (codes "type", string (codes "image")) ∷ []

abbrev pub image_value : ImageRow → Data
image_value r = object_of (image_members r)

unfoldable pub image_line : ImageRow → List ℕ
image_line r = line (image_value r)

-- a line for each of the images that filters leave
abbrev pub image_lines : Wanted → Configuration → List ℕ
image_lines w c = flat_map image_line (image_rows w c)
