-- The rows of a table of two images, computed: a name is that of a record in the list.
use Rattle.std.proofs.Common.{◌≡◌, ℕ, List, ◌++◌, ap}
use Rattle.std.specs.Fmt.{char_count, digits, padded_integral}
use Rattle.std.specs.FinMap.{find, get-from_entries}
use Rattle.std.specs.List.{flat_map}
use Rattle.std.specs.Option.{option_and_then}
use Rattle.json.specs.Print.{escape_byte}
use Rattle.iocm_types.specs.declared.image.Image.{Image}
use Rattle.iocm_types.specs.declared.key.Key.TheVariants as key
use Rattle.iocm_types.specs.declared.sub_id.SubId.{SubId}
use Rattle.iocm_types.specs.declared.view.View.{View}
use Rattle.iocm_types.specs.Key.{key_cmp}
use Rattle.iocm_types.specs.KeyOrder.{keys_total}
use Rattle.iocm_model.specs.Machine.Configuration.{as_image, with_keys}
use Rattle.iocm_lines.specs.declared.form.Form.{Form}
use Rattle.iocm_lines.specs.declared.form.Form.TheVariants.{Text, Json}
use Rattle.iocm_console.specs.Examples.{TablesAsWorked, some_configuration, two_images, two_rows}
use Rattle.iocm_console.specs.Lines.{row_text}
use Rattle.iocm_console.specs.Table.{name_in, name_there, opening_text, rows_in}

-- the name of an image in the list
abbrev listed_name : Image → List ℕ
listed_name i = name_there (option_and_then as_image (find key_cmp (key.Image i.css i.mif) (with_keys two_images)))

name_is : (i : Image) → name_in some_configuration i ≡ listed_name i
name_is i = ap (λ o. name_there (option_and_then as_image o))
    (get-from_entries keys_total (with_keys two_images) (key.Image i.css i.mif))

-- rows with these names
rows_are : (form : Form) (rows : List (SubId × View)) → rows_in form some_configuration rows
    ≡ opening_text form ++ flat_map (λ row. row_text form (listed_name row.0.image) row) rows
rows_are form rows =
    ap (λ (named : SubId × View → List ℕ). opening_text form ++ flat_map (λ row. row_text form (named row) row) rows)
    (λ j row. name_is row.0.image j)

pub tables_as_worked : TablesAsWorked
unfolding char_count digits padded_integral escape_byte lib.Utf8.encode
tables_as_worked = record { text = rows_are Text two_rows; json = rows_are Json two_rows }
