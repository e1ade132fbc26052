-- The cells of rows of devices and of images as words, and the tables of them.
-- Bytes by their codes: 46 is a point.
use Rattle.std.specs.Prelude.{ℕ, ◌+◌, ◌-◌, ◌==◌, ◌&&◌, nat_lt, if◌then◌else◌, None, List, [], ◌∷◌, ◌++◌, map, length}
use Rattle.std.specs.Prelude.{codes}
use Rattle.std.specs.Fmt.{decimal}
use Rattle.iocm_types.specs.declared.css_path.CssPath.{CssPath}
use Rattle.iocm_types.specs.declared.image.Image.{Image}
use Rattle.iocm_types.specs.Print.{hex1, hex2, hex4}
use Rattle.iocm_model.specs.Machine.Configuration.{Configuration, images_of}
use Rattle.iocm_filter.specs.Wanted.{Wanted}
use Rattle.iocm_words.specs.declared.images.ImagePaths.{ImagePaths}
use Rattle.iocm_words.specs.declared.paths.LinkedPath.{LinkedPath}
use Rattle.iocm_words.specs.declared.table.Side.TheVariants.{Left, Right}
use Rattle.iocm_words.specs.Images.{all_images_word, images_word}
use Rattle.iocm_words.specs.Paths.{paths_word}
use Rattle.iocm_words.specs.Ranges.{devices_word, from_to, set_word}
use Rattle.iocm_words.specs.Table.{TableColumn, table_text}
use Rattle.iocm_words.specs.Words.{carried_word, comma_word}
use Rattle.iocm_list.specs.Cells.{column}
use Rattle.iocm_list.specs.DeviceRows.{DeviceRow, device_rows}
use Rattle.iocm_list.specs.ImageRows.{ImageRow, image_rows}
use Rattle.iocm_sight.specs.declared.seen_by.SeenBy.{SeenBy}

-- ---- devices

-- no link of a path is told
abbrev pub unlinked : CssPath → LinkedPath
unlinked p = record { css = p.css; path = p.path; link = None }

abbrev pub counts_of : SeenBy → ImagePaths
counts_of s = record { online = s.online; installed = s.installed; name = s.name }

-- the images that see devices, of so many that there are
abbrev pub seen_word : ℕ → List SeenBy → List ℕ
seen_word all seen = if nat_lt 1 all && length seen == all then all_images_word (map counts_of seen)
    else images_word (map counts_of seen)

abbrev pub device_columns : List TableColumn
device_columns =
    column (codes "DEVICE") Left ∷ column (codes "COUNT") Right ∷ column (codes "UNIT") Left
    ∷ column (codes "CU") Left ∷ column (codes "UNITADD") Left ∷ column (codes "PATHS") Left
    ∷ column (codes "IMAGES") Left ∷ []

-- the cells of a row, where there are so many images
abbrev pub device_cells : ℕ → DeviceRow → List (List ℕ)
device_cells all r =
    devices_word (record { set = r.set; first = r.first; last = r.first + r.count - 1 }) ∷ decimal r.count
    ∷ carried_word r.device_type ∷ comma_word (map hex4 r.units)
    ∷ from_to hex2 r.unit_address (r.unit_address + r.count - 1) ∷ paths_word (map unlinked r.paths)
    ∷ seen_word all r.images ∷ []

-- the table of the devices that filters leave
abbrev pub device_table : Wanted → Configuration → List ℕ
device_table w c = table_text device_columns (map (device_cells (length (images_of c))) (device_rows w c))

-- ---- images

-- an image by its channel subsystem and its MIF image ID: 0.1
abbrev pub image_word : Image → List ℕ
image_word i = hex1 i.css ++ (46 ∷ hex1 i.mif)

abbrev pub image_columns : List TableColumn
image_columns =
    column (codes "IMAGE") Left ∷ column (codes "NAME") Left ∷ column (codes "PATHS") Right
    ∷ column (codes "ONLINE") Right ∷ column (codes "DEVICES") Right ∷ column (codes "NO-PATH") Right
    ∷ column (codes "ONE-PATH") Right ∷ column (codes "NUMBERS") Left ∷ []

abbrev pub image_cells : ImageRow → List (List ℕ)
image_cells r =
    image_word r.image ∷ r.name ∷ decimal r.paths ∷ decimal r.online ∷ decimal r.devices ∷ decimal r.no_path
    ∷ decimal r.one_path ∷ comma_word (map set_word r.numbers) ∷ []

-- the table of the images that filters leave
abbrev pub image_table : Wanted → Configuration → List ℕ
image_table w c = table_text image_columns (map image_cells (image_rows w c))
