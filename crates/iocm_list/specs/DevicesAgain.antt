-- The tables of devices and of images are read again: the words of their lines are the headings and the cells of the
-- rows.
use Rattle.std.specs.Prelude.{◌≡◌, true, length, map}
use Rattle.std.specs.List.{list_all}
use Rattle.iocm_types.specs.Name.{is_name}
use Rattle.iocm_model.specs.Machine.Configuration.{Configuration, images_of}
use Rattle.iocm_model.specs.Machine.Record.{ImageRecord}
use Rattle.iocm_filter.specs.Wanted.{Wanted}
use Rattle.iocm_words.specs.Again.{lines_of, words_of}
use Rattle.iocm_words.specs.Table.{lines}
use Rattle.iocm_list.specs.DeviceCells.{device_cells, device_columns, device_table, image_cells, image_columns}
use Rattle.iocm_list.specs.DeviceCells.{image_table}
use Rattle.iocm_list.specs.DeviceRows.{device_rows}
use Rattle.iocm_list.specs.ImageRows.{image_rows}

-- images have names, as they have wherever images are read
abbrev pub HasImageNames : Configuration → Type 0
HasImageNames c = list_all (λ (i : ImageRecord). is_name i.name) (images_of c) ≡ true

abbrev pub DeviceTableIsReadAgain : Type 0
DeviceTableIsReadAgain = (w : Wanted) (c : Configuration) → HasImageNames c
    → map words_of (lines_of (device_table w c))
    ≡ lines device_columns (map (device_cells (length (images_of c))) (device_rows w c))

abbrev pub ImageTableIsReadAgain : Type 0
ImageTableIsReadAgain = (w : Wanted) (c : Configuration) → HasImageNames c
    → map words_of (lines_of (image_table w c)) ≡ lines image_columns (map image_cells (image_rows w c))
