-- What is printed of images and devices: the table of images, blocks of images with their rows, and the line of totals.
-- Bytes by their codes: 10 is a line feed, 58 a colon.
use Rattle.std.specs.Prelude.{ℕ, List, [], ◌∷◌, ◌++◌, map, length, codes}
use Rattle.std.specs.Fmt.{decimal}
use Rattle.std.specs.List.{flat_map}
use Rattle.iocm_words.specs.declared.table.Side.{Side}
use Rattle.iocm_words.specs.declared.table.Side.TheVariants.{Left, Right}
use Rattle.iocm_words.specs.Table.{TableColumn, table_text}
use Rattle.iocm_words.specs.Words.{grouped}
use Rattle.iocm_impact.specs.Blocks.{Told}
use Rattle.iocm_impact.specs.Impact.{Impact}
use Rattle.iocm_impact_text.specs.Listed.{image_word, images_text}
use Rattle.iocm_impact_text.specs.RowText.{row_text}
use Rattle.iocm_impact.specs.declared.counts.Counts.{Counts}
use Rattle.iocm_impact.specs.declared.counts.ImageCounts.{ImageCounts}
use Rattle.iocm_impact.specs.declared.row.Row.{Row}

-- ---- the table of images

abbrev pub column : List ℕ → Side → TableColumn
column heading side = record { heading = heading; side = side }

abbrev pub image_columns : List TableColumn
image_columns =
    column (codes "IMAGE") Left ∷ column (codes "NAME") Left ∷ column (codes "GONE") Right
    ∷ column (codes "CAME") Right ∷ column (codes "CHANGED") Right ∷ column (codes "SAME") Right
    ∷ column (codes "LOST") Right ∷ column (codes "INTERRUPTED") Right ∷ column (codes "ONE-PATH") Right
    ∷ column (codes "OFF-ON") Right ∷ []

abbrev pub image_cells : ImageCounts → List (List ℕ)
image_cells i =
    image_word i.image.image ∷ i.image.name ∷ decimal i.counts.gone ∷ decimal i.counts.came
    ∷ decimal i.counts.changed ∷ decimal i.counts.same ∷ decimal i.counts.lost ∷ decimal i.counts.interrupted
    ∷ decimal i.counts.one_path ∷ decimal i.counts.off_and_on ∷ []

abbrev pub table_of : List ImageCounts → List ℕ
table_of is = table_text image_columns (map image_cells is)

-- where no image is affected there is no table
abbrev pub images_table : List ImageCounts → List ℕ
images_table [] = []
images_table (i ∷ is) = table_of (i ∷ is)

-- ---- blocks

abbrev pub row_line : Row → List ℕ
row_line r = row_text r ++ 10 ∷ []

abbrev pub block_text : ℕ → Told → List ℕ
block_text all b = images_text all b.images ++ (58 ∷ 10 ∷ flat_map row_line b.rows)

-- an empty line between them
abbrev pub next_block : ℕ → Told → List ℕ
next_block all b = 10 ∷ block_text all b

abbrev pub blocks_text : ℕ → List Told → List ℕ
blocks_text all [] = []
blocks_text all (b ∷ bs) = block_text all b ++ flat_map (next_block all) bs

-- ---- totals

abbrev pub counted : ℕ → List ℕ → List ℕ
counted count words = grouped (decimal count) ++ words

abbrev pub images_total : ℕ → ℕ → List ℕ
images_total affected all =
    codes "Images: " ++ (decimal affected ++ (codes " of " ++ (decimal all ++ codes " affected. Devices: ")))

-- by what is seen, and by the paths that are left
abbrev pub seen_total : Counts → List ℕ
seen_total n = (counted n.gone (codes " gone, ") ++ counted n.came (codes " came, "))
    ++ counted n.changed (codes " changed; ")

abbrev pub paths_total : Counts → List ℕ
paths_total n = ((counted n.lost (codes " lost, ") ++ counted n.interrupted (codes " interrupted, "))
    ++ counted n.one_path (codes " with one path left, ")) ++ counted n.off_and_on (codes " off and on.")

abbrev pub totals_line : Impact → List ℕ
totals_line i =
    ((images_total (length i.images) i.all ++ seen_total i.devices) ++ paths_total i.devices) ++ 10 ∷ []
